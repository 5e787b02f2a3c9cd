pub mod JudgedTexts
pub mod ToldAnswers
pub mod FileTexts
pub mod Marks
pub mod VectorsSoFar
