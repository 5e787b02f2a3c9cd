pub mod Placed
pub mod Small
pub mod Words
