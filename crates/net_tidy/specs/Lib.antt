pub mod Rule
pub mod Flags
pub mod Places
pub mod Readers
