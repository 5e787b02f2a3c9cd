-- The words of a line that a run is made on.
use Rattle.std.specs.Prelude.{ℕ, List, [], ◌∷◌, ◌==◌}
use Rattle.std.specs.List.{slice_split}

-- what stands between single blanks, which are the byte 32; an empty line has no words
abbrev pub words_of : List ℕ → List (List ℕ)
words_of [] = []
words_of (first ∷ rest) = slice_split (λ byte. byte == 32) (first ∷ rest)
