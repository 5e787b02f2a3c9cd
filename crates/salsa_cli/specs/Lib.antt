pub mod Salsa
