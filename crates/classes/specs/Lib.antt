pub mod Refusals
pub mod Plan
pub mod Sixteens
pub mod Quarters
pub mod Lawful
