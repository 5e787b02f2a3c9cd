pub mod CircuitText
pub mod Refusals
pub mod SymbolTexts
pub mod ReadCircuit
