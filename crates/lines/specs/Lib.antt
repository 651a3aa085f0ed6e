pub mod Refusals
pub mod Lines
pub mod Reading
pub mod Writing
pub mod Showing
pub mod Answering
pub mod Replying
