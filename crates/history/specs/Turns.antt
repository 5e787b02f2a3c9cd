-- The turns of reading after one more.
use Rattle.std.specs.Prelude.{ℕ, List, ◌∷◌, Option, Some, None}

-- one more turn of the file that is open, if one is
abbrev pub with_turn : Option (List ℕ) → List (List ℕ) → List (List ℕ)
with_turn None turns = turns
with_turn (Some name) turns = name ∷ turns
