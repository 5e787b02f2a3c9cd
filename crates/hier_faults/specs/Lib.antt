pub mod Faults
pub mod Whole
pub mod Tests
pub mod Named
