pub mod MovedChanges
pub mod Pools
pub mod Trying
pub mod Searching
pub mod Shrinkings
