pub mod Answers
pub mod Trimmed
