pub mod Maps
pub mod Changes
pub mod Back
pub mod Calls
pub mod Examples
