-- Slices of a text.
use Rattle.std.specs.Prelude.{List, map}
use Rattle.std.specs.Borrow.{Bor}
use Rattle.semantics.specs.Texts.{Bytes}

-- the bytes of each slice
abbrev pub texts : List (Bor Bytes) → List Bytes
texts slices = map (λ s. s.now) slices
