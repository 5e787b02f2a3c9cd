pub mod Steps
pub mod Times
pub mod Parts
pub mod Numbers
