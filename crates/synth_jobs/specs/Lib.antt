pub mod Calls
pub mod Demo
pub mod Requests
pub mod Spent
pub mod Work
pub mod Prepared
pub mod Delivered
pub mod Beginnings
