pub mod Slots
pub mod Passing
pub mod Refusals
pub mod History
pub mod Noting
pub mod Stands
