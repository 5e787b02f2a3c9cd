pub mod Checker
pub mod Found
pub mod Marks
pub mod SetStanding
pub mod HeldEntries
