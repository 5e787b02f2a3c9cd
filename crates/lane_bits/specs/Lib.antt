pub mod Rows
pub mod Changed
pub mod Patterns
pub mod CountingOrder
pub mod Store
pub mod Examples
pub mod InputOrder
