pub mod Items
pub mod State
pub mod Standing
pub mod Calls
pub mod Readers
pub mod Run
