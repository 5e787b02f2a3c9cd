pub mod Sections
pub mod Sets
pub mod Driven
pub mod Users
