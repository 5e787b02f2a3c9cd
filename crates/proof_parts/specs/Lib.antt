pub mod Literals
pub mod Cnf
