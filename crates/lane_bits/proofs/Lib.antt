pub mod Bits
pub mod Changed
pub mod LastWord
pub mod CountingOrder
pub mod Store
