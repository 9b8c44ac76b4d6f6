pub mod ItemStage
pub mod Pair
pub mod Writing
