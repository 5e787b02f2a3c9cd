mod Flipping
mod CareBits
mod MovedWords
mod Breaking
mod OverlapBits
mod Filling
mod GrownBlocks
pub mod Fronts
