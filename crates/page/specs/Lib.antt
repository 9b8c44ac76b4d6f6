pub mod Slot
pub mod Sums
pub mod Page
pub mod Footer
pub mod Geometry
pub mod Tip
