pub mod Told
pub mod InputReadings
pub mod OneFile
pub mod Conversions
pub mod Texts
