pub mod Simulation
pub mod Parts
pub mod NetRows
