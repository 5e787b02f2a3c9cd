pub mod Kept
pub mod Trimmed
pub mod Trimming
pub mod TrimLaws
pub mod TrimExamples
