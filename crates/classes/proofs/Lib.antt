pub mod Plans
pub mod QuartersBlocks
pub mod SixteensBlocks
