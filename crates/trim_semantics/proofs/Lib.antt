pub mod Members
pub mod Naming
pub mod Refuting
pub mod Keeping
pub mod Trims
pub mod Again
