pub mod Joined
pub mod Values
pub mod NetValues
