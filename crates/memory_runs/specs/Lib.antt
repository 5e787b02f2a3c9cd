pub mod Bundles
pub mod Words
