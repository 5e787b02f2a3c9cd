pub mod BundleAnswers
pub mod SynthAnswers
pub mod TaskAnswers
pub mod Runs
pub mod SpentQueries
pub mod Headlines
pub mod SecondHeadlines
