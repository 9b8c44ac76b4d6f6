pub mod Frame
pub mod Journal
pub mod Reader
pub mod Calls
pub mod Walk
pub mod Costs
