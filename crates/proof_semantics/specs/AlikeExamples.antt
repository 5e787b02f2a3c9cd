-- Worked examples of tables that are alike, and of tables that are not.
use Rattle.std.specs.Prelude.{false, List, [], ◌∷◌, ◌++◌}
use Rattle.semantics.specs.declared.mark.Mark.TheVariants.{Zero, One}
use Rattle.semantics.specs.Net.{TableValue}
use Rattle.semantics.specs.Examples.{half_adder}
use Rattle.proof_semantics.specs.Examples.{table}
use Rattle.proof_semantics.specs.Alike.{IsAlike, IsFirstAlike}

-- two half adders over the same two inputs, and an inverter behind each of their sums: the sums are the
-- signals 2 and 4, the carries 3 and 5
abbrev pub two_half_adders : List TableValue
two_half_adders = half_adder.tables ++ half_adder.tables ++ table (2 ∷ []) ((Zero ∷ []) ∷ [])
    ∷ table (4 ∷ []) ((Zero ∷ []) ∷ []) ∷ []

-- the first input without the second, from signal 2 on; then with plane 0, with the pins exchanged, and with
-- the marks exchanged
abbrev pub one_gate : List TableValue
one_gate =
    table (0 ∷ 1 ∷ []) ((One ∷ Zero ∷ []) ∷ [])
    ∷ record (table (0 ∷ 1 ∷ []) ((One ∷ Zero ∷ []) ∷ [])) { plane = false }
    ∷ table (1 ∷ 0 ∷ []) ((One ∷ Zero ∷ []) ∷ [])
    ∷ table (0 ∷ 1 ∷ []) ((Zero ∷ One ∷ []) ∷ []) ∷ []

pub record AlikeExamples : Type 0 where
  pub sums : IsFirstAlike 2 two_half_adders 4 2
  pub carries : IsFirstAlike 2 two_half_adders 5 3
  pub behind_sums : IsAlike 2 two_half_adders 7 6
  pub other_rows : ¬ IsAlike 2 two_half_adders 3 2
  pub inputs : ¬ IsAlike 2 two_half_adders 1 0
  pub other_plane : ¬ IsAlike 2 one_gate 3 2
  pub exchanged_pins : ¬ IsAlike 2 one_gate 4 2
  -- the same function of the inputs, but not the same table
  pub exchanged_twice : ¬ IsAlike 2 one_gate 5 4
