pub mod Exit
pub mod Refused
pub mod Unread
pub mod OnFiles
pub mod Ends
pub mod Line
