pub mod Flips
pub mod Masks
pub mod Filled
pub mod Lending
pub mod Overlaps
pub mod Growing
