pub mod Drawing
pub mod Farey
pub mod Finished
pub mod Joining
pub mod Ratios
pub mod Subtraction
