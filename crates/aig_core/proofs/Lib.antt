pub mod Rounds
pub mod Literals
pub mod Growing
pub mod Rows
pub mod Signals
