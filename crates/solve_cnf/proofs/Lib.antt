pub mod Appended
pub mod AnswerTexts
pub mod Words
pub mod NumberedLines
pub mod Formulas
pub mod Written
