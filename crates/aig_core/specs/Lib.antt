pub mod Graph
pub mod Grown
pub mod Tables
pub mod Signals
pub mod Laws
pub mod Examples
