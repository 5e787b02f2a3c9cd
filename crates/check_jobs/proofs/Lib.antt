pub mod CheckAnswers
pub mod TrimAnswers
