pub mod CacheState
pub mod Chain
pub mod Pages
pub mod Slots
