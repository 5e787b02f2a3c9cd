-- A text that is handed over in pieces.
use Rattle.std.specs.Prelude.{List, [], ◌∷◌, ◌++◌}
use Rattle.std.specs.Borrow.{Bor}
use Rattle.semantics.specs.Texts.{Bytes}

-- the pieces' bytes, one piece after another
abbrev pub joined : List (Bor Bytes) → Bytes
joined [] = []
joined (piece ∷ pieces) = piece.now ++ joined pieces
