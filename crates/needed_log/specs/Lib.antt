pub mod Needed
pub mod Kept
pub mod Marks
pub mod Renumbered
