pub mod Frames
pub mod Journals
pub mod Starts
pub mod Readers
pub mod Costs
pub mod Walks
pub mod Examples
