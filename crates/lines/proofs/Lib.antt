pub mod Digits
pub mod Cutting
pub mod Writings
pub mod Orders
