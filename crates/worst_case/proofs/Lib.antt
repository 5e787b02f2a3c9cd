pub mod Beginnings
pub mod Queries
pub mod Ranges
pub mod Tried
pub mod Decided
pub mod Repeated
