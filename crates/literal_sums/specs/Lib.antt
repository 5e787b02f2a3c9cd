pub mod Sums
pub mod Adders
pub mod Words
pub mod Examples
