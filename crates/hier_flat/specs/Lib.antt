pub mod Hierarchies
pub mod Refusals
pub mod Flattening
pub mod Outputs
pub mod Plans
pub mod Visits
pub mod Weights
