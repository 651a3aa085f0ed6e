pub mod RunWords
pub mod RunChains
pub mod RunLaid
pub mod RunTable
pub mod RunStore
