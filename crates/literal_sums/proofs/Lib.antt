pub mod Adding
pub mod Counting
pub mod Taking
pub mod Weighing
