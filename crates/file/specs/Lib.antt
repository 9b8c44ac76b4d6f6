pub mod Asked
pub mod Mirror
pub mod Names
pub mod Runs
