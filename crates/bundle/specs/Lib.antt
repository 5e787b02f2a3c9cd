pub mod Shown
pub mod VectorsStanding
pub mod Judging
pub mod Loading
