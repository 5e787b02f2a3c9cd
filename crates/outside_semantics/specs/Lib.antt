pub mod Outside
pub mod WrittenFiles
pub mod Laws
pub mod Examples
