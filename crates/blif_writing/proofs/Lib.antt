pub mod NetTexts
