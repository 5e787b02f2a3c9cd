pub mod Chains
pub mod Ids
pub mod Steps
pub mod Forms
pub mod Levels
pub mod Merging
pub mod Places
pub mod LevelLists
