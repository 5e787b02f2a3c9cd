pub mod Exceeds
pub mod VectorsTried
pub mod Maximum
pub mod Levels
