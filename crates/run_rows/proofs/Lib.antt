pub mod RunPuts
pub mod RunZeros
pub mod RunMade
