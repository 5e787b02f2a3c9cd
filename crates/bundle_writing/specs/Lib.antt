pub mod Names
pub mod Value
pub mod VectorLines
