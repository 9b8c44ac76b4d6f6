pub mod Slots
pub mod Values
pub mod Footers
pub mod WholePages
pub mod Ranges
pub mod Examples
pub mod Chunks
mod Buffers
