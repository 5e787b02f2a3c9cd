pub mod Bounds
pub mod Judging
