pub mod NetText
