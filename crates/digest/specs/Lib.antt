pub mod Poly
pub mod Powers
