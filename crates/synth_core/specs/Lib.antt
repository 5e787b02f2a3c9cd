pub mod MoveTrials
pub mod AllowedMoves
pub mod Turns
