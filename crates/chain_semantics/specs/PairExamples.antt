-- Worked examples of near signals and of moves to two signals, computed from the definitions.
use Rattle.std.specs.Prelude.{◌≡◌, ℕ, true, false, List, [], ◌∷◌, map, length, codes}
use Rattle.std.specs.List.{range_with_len}
use Rattle.semantics.specs.declared.mark.Mark.{Mark}
use Rattle.semantics.specs.declared.mark.Mark.TheVariants.{Zero, One, Dash}
use Rattle.semantics.specs.Net.{TableValue, NetValue, table_at}
use Rattle.semantics.specs.Replaced.{with_table}
use Rattle.semantics.specs.Value.{outputs_of}
use Rattle.semantics.specs.Vectors.{all_vectors}
use Rattle.semantics.specs.Examples.{half_adder, wire}
use Rattle.chain_semantics.specs.declared.moves.Move.TheVariants.{Pair}
use Rattle.chain_semantics.specs.Moves.{each_once, near_signals, pairs_of, pair_moves, moved}

abbrev pub table_of_rows : List ℕ → List (List Mark) → TableValue
table_of_rows pins rows = record { name = codes "y"; pins = pins; rows = rows; plane = true }

-- q is 1 where exactly one of w and the conjunction of u and v are; y is the exclusive or of w and q, which
-- is that conjunction
abbrev pub behind_two : NetValue
behind_two = record {
  model = codes "p";
  inputs = codes "u" ∷ codes "v" ∷ codes "w" ∷ [];
  tables =
      record {
        name = codes "q";
        pins = 0 ∷ 1 ∷ 2 ∷ [];
        rows = (One ∷ One ∷ Zero ∷ []) ∷ (Zero ∷ Dash ∷ One ∷ []) ∷ (Dash ∷ Zero ∷ One ∷ []) ∷ [];
        plane = true;
      }
      ∷ table_of_rows (2 ∷ 3 ∷ []) ((One ∷ Zero ∷ []) ∷ (Zero ∷ One ∷ []) ∷ [])
      ∷ [];
  outputs = 3 ∷ 4 ∷ [];
}

pub record PairExamples : Type 0 where
  pub each_once : each_once (3 ∷ 1 ∷ 3 ∷ 2 ∷ 1 ∷ []) ≡ 3 ∷ 1 ∷ 2 ∷ []
  pub pairs : pairs_of (2 ∷ 3 ∷ 0 ∷ []) ≡ (2, 3) ∷ (2, 0) ∷ (3, 0) ∷ []
  -- the pins, and then those pins of table q that are none of them
  pub near : near_signals behind_two (table_at behind_two.tables 1) ≡ 2 ∷ 3 ∷ 0 ∷ 1 ∷ []
  -- of eighteen pins the first sixteen
  pub cut : near_signals wire (table_of_rows (range_with_len 0 18) []) ≡ range_with_len 0 16
  pub in_order :
      pair_moves half_adder 0 (table_at half_adder.tables 0)
      ≡ Pair 0 0 false 1 false false ∷ Pair 0 0 false 1 false true ∷ Pair 0 0 false 1 true false
      ∷ Pair 0 0 false 1 true true
      ∷ Pair 0 0 true 1 false false ∷ Pair 0 0 true 1 false true ∷ Pair 0 0 true 1 true false
      ∷ Pair 0 0 true 1 true true ∷ []
  -- eight moves for each of six pairs
  pub through_a_table : length (pair_moves behind_two 1 (table_at behind_two.tables 1)) ≡ 48
  pub of_two_literals : pair_moves half_adder 1 (table_at half_adder.tables 1) ≡ []
  pub of_one_pin : pair_moves wire 0 (table_of_rows (0 ∷ []) ((One ∷ []) ∷ (Zero ∷ []) ∷ (One ∷ []) ∷ []))
      ≡ []
  pub plain : moved behind_two (Pair 1 0 false 1 false false)
      ≡ with_table behind_two 1 (table_of_rows (0 ∷ 1 ∷ []) ((One ∷ One ∷ []) ∷ []))
  pub flipped :
      moved behind_two (Pair 1 2 true 3 false true)
      ≡ with_table behind_two 1
      (record { name = codes "y"; pins = 2 ∷ 3 ∷ []; rows = (Zero ∷ One ∷ []) ∷ []; plane = false })
  -- the plain pair of u and v leaves every output
  pub same_outputs : map (outputs_of (moved behind_two (Pair 1 0 false 1 false false))) (all_vectors 3)
      ≡ map (outputs_of behind_two) (all_vectors 3)
