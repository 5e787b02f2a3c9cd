pub mod Tried
pub mod FirstGreatest
pub mod Cases
