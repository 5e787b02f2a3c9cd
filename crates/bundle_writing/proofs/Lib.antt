pub mod FilesInOrder
pub mod VectorTexts
