-- Worked examples, computed from the definitions.
use Rattle.std.specs.Prelude.{◌≡◌, Bool, true, false, List, [], ◌∷◌, map}
use Rattle.semantics.specs.Vectors.{all_vectors}
use Rattle.lane_bits.specs.Rows.{row_bit, word_count}
use Rattle.lane_bits.specs.Patterns.{PatternSet, pattern_bit, vectors_in}
use Rattle.lane_bits.specs.InputOrder.{HasEveryVector}

pub record RowExamples : Type 0 where
  pub words : map word_count (0 ∷ 1 ∷ 64 ∷ 65 ∷ []) ≡ 0 ∷ 1 ∷ 1 ∷ 2 ∷ []
  pub lowest : row_bit (5 ∷ 2 ∷ []) 0 ≡ true
  pub next : row_bit (5 ∷ 2 ∷ []) 1 ≡ false
  pub second_word : row_bit (5 ∷ 2 ∷ []) 65 ≡ true
  pub past_the_end : row_bit (5 ∷ 2 ∷ []) 129 ≡ false

-- the rows of two inputs whose vectors are the counting order, and the bits of the second input
pub record PatternExamples : Type 0 where
  pub counting : vectors_in ((10 ∷ []) ∷ (12 ∷ []) ∷ []) 4 ≡ all_vectors 2
  -- the inputs have changed places: the second one is at place 0
  pub placed : vectors_in ((12 ∷ []) ∷ (10 ∷ []) ∷ []) 4 ≡ (false ∷ false ∷ []) ∷ (false ∷ true ∷ [])
      ∷ (true ∷ false ∷ []) ∷ (true ∷ true ∷ []) ∷ []
  pub bits : map (pattern_bit (all_vectors 2) 1) (0 ∷ 1 ∷ 2 ∷ 3 ∷ 4 ∷ [])
      ≡ false ∷ false ∷ true ∷ true ∷ false ∷ []

-- a set of vectors of one input
abbrev pub of_one_input : List (List Bool) → PatternSet
of_one_input vectors = record { inputs = 1; vectors = vectors }

-- one input has two vectors, in whichever order, and no input has one, which has no bits
pub record EveryVectorExamples : Type 0 where
  pub both : HasEveryVector (of_one_input ((false ∷ []) ∷ (true ∷ []) ∷ []))
  pub turned : HasEveryVector (of_one_input ((true ∷ []) ∷ (false ∷ []) ∷ []))
  pub one : HasEveryVector (of_one_input ((false ∷ []) ∷ [])) → ⊥
  pub twice : HasEveryVector (of_one_input ((true ∷ []) ∷ (true ∷ []) ∷ [])) → ⊥
  pub without_inputs : HasEveryVector (record { inputs = 0; vectors = [] ∷ [] })
