pub mod Keeping
pub mod Steps
pub mod Marking
pub mod Carrying
pub mod Shortening
