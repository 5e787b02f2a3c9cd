use Rattle.std.proofs.Common.{◌≡◌, ◌+◌, take, drop, length}
use Rattle.file_core.specs.Pieces.{joined}
use Rattle.cnf_core.proofs.text_token.TextToken.of.Given as goal

-- the pieces so far stand in front
abbrev pub invariant-loop-piece : goal.invariant-loop-piece
invariant-loop-piece l = record {
  written : take l.end l.bytes ≡ joined (take l.piece-index l.pieces);
  end : l.end + length (joined (drop l.piece-index l.pieces)) ≡ length (joined l.pieces);
}
