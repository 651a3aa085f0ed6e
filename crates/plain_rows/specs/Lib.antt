pub mod PlainWords
pub mod PlainTable
pub mod PlainSound
pub mod PlainStore
