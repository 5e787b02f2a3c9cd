pub mod Exceeds
pub mod Levels
pub mod Maximum
