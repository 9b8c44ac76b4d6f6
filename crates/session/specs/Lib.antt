pub mod Run
pub mod Calls
pub mod Promise
pub mod Within
pub mod Others
pub mod Phase
