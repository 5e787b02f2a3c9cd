pub mod Options
pub mod Program
pub mod Streams
pub mod Untold
