pub mod GraphClauses
pub mod Differences
pub mod Levels
pub mod LowPlaces
pub mod Gaps
