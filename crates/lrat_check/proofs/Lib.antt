pub mod HeldMaps
pub mod LiteralSets
pub mod HintAnswers
pub mod Standing
