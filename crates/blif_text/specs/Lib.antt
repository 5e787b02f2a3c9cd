pub mod KeptLines
pub mod LogicalLines
pub mod Messages
pub mod NamedNets
pub mod Names
pub mod Places
pub mod Refusals
