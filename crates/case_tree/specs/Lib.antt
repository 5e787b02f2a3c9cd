pub mod Cases
pub mod Rooms
pub mod Behind
pub mod Trees
