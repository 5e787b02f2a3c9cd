pub mod Left
pub mod Fitting
pub mod Made
