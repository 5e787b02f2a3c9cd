pub mod Levels
pub mod Ratios
pub mod Subtraction
pub mod Words
