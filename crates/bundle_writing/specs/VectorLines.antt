-- The lines of `STEM.wit`, one behind another.
use Rattle.std.specs.Prelude.{Bool, List, [], ◌∷◌, ◌++◌, flat_map}
use Rattle.semantics.specs.Texts.{Bytes, bits_word}

abbrev pub vector_line : List Bool → Bytes
vector_line x = bits_word x ++ 10 ∷ []

abbrev pub vector_lines : List (List Bool) → Bytes
vector_lines vectors = flat_map vector_line vectors
