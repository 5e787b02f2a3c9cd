pub mod Built
pub mod Places
pub mod Refused
pub mod Sorting
