pub mod Zeroed
pub mod Fits
