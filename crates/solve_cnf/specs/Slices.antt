-- Lines as slices of a text.
use Rattle.std.specs.Prelude.{ℕ, List, map}
use Rattle.std.specs.Borrow.{Bor}
use Rattle.semantics.specs.Texts.{Bytes}

-- the bytes of each line that has a number
abbrev pub line_texts : List (ℕ × Bor Bytes) → List Bytes
line_texts lines = map (λ l. l.1.now) lines
