pub mod HeldFiles
pub mod ReadTurns
