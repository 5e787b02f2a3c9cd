pub mod Roots
pub mod Fresh
pub mod SoFar
pub mod Named
