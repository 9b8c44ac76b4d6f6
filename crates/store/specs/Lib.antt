pub mod Pairs
pub mod Changes
pub mod Store
