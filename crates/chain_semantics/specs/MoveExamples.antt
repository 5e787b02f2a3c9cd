-- Worked examples of moves, flips and cared-for inputs, computed from the definitions.
use Rattle.std.specs.Prelude.{◌≡◌, ℕ, true, false, List, [], ◌∷◌, map, codes}
use Rattle.semantics.specs.declared.mark.Mark.{Mark}
use Rattle.semantics.specs.declared.mark.Mark.TheVariants.{Zero, One, Dash}
use Rattle.semantics.specs.Net.{NetValue}
use Rattle.semantics.specs.Replaced.{with_table}
use Rattle.semantics.specs.Vectors.{all_vectors}
use Rattle.semantics.specs.Error.{error_of, net_error}
use Rattle.semantics.specs.declared.metric.Kind.TheVariants.{Abs}
use Rattle.semantics.specs.Error.{one_word}
use Rattle.semantics.specs.Value.{outputs_of}
use Rattle.semantics.specs.Examples.{half_adder, out_of_order, constant_sum, both_constant, or_twice, by_copy}
use Rattle.chain_semantics.specs.declared.moves.Move.TheVariants.{Const, DropRow, DropLiteral, Signal, Pair}
use Rattle.chain_semantics.specs.Moves.{depends, moves_of, old_moves_of, moved}
use Rattle.chain_semantics.specs.Flips.{flipped_outputs}
use Rattle.chain_semantics.specs.Care.{IsCaredFor, IsBrokenAt}

-- the half adder with these rows and pins in its table of the sum
abbrev pub with_sum : List ℕ → List (List Mark) → NetValue
with_sum pins rows = with_table half_adder 0
    (record { name = codes "s"; pins = pins; rows = rows; plane = true })

pub record MoveExamples : Type 0 where
  pub of_half_adder :
      moves_of half_adder
      ≡ Const 0 false ∷ Const 0 true ∷ DropRow 0 0 ∷ DropRow 0 1
      ∷ DropLiteral 0 0 0 ∷ DropLiteral 0 0 1 ∷ DropLiteral 0 1 0 ∷ DropLiteral 0 1 1
      ∷ Signal 0 0 false ∷ Signal 0 0 true ∷ Signal 0 1 false ∷ Signal 0 1 true ∷ Signal 0 3 false
      ∷ Signal 0 3 true
      ∷ Pair 0 0 false 1 false false ∷ Pair 0 0 false 1 false true ∷ Pair 0 0 false 1 true false
      ∷ Pair 0 0 false 1 true true
      ∷ Pair 0 0 true 1 false false ∷ Pair 0 0 true 1 false true ∷ Pair 0 0 true 1 true false
      ∷ Pair 0 0 true 1 true true
      ∷ Const 1 false ∷ Const 1 true
      ∷ DropLiteral 1 0 0 ∷ DropLiteral 1 0 1
      ∷ Signal 1 0 false ∷ Signal 1 0 true ∷ Signal 1 1 false ∷ Signal 1 1 true ∷ Signal 1 2 false
      ∷ Signal 1 2 true ∷ []
  pub old_ones_of_half_adder :
      old_moves_of half_adder
      ≡ Const 0 false ∷ Const 0 true ∷ DropRow 0 0 ∷ DropRow 0 1
      ∷ DropLiteral 0 0 0 ∷ DropLiteral 0 0 1 ∷ DropLiteral 0 1 0 ∷ DropLiteral 0 1 1
      ∷ Signal 0 0 false ∷ Signal 0 0 true ∷ Signal 0 1 false ∷ Signal 0 1 true ∷ Signal 0 3 false
      ∷ Signal 0 3 true
      ∷ Const 1 false ∷ Const 1 true
      ∷ DropLiteral 1 0 0 ∷ DropLiteral 1 0 1
      ∷ Signal 1 0 false ∷ Signal 1 0 true ∷ Signal 1 1 false ∷ Signal 1 1 true ∷ Signal 1 2 false
      ∷ Signal 1 2 true ∷ []
  pub of_constants : moves_of both_constant ≡ []
  pub of_inverters : moves_of out_of_order
      ≡ Const 0 false ∷ Const 0 true ∷ DropLiteral 0 0 0 ∷ Const 1 false ∷ Const 1 true ∷ DropLiteral 1 0 0
      ∷ []
  -- a signal that reads the table is not put in its place, and a dash is no literal
  pub of_a_read_table :
      moves_of (or_twice by_copy)
      ≡ Const 0 false ∷ Const 0 true ∷ DropLiteral 0 0 0
      ∷ Const 1 false ∷ Const 1 true ∷ DropRow 1 0 ∷ DropRow 1 1 ∷ DropLiteral 1 0 0 ∷ DropLiteral 1 1 1
      ∷ Signal 1 0 false ∷ Signal 1 0 true ∷ Signal 1 1 false ∷ Signal 1 1 true ∷ []
  pub on_a_table : map (depends 2 half_adder.tables 0) (0 ∷ 1 ∷ 2 ∷ 3 ∷ [])
      ≡ false ∷ false ∷ true ∷ false ∷ []
  pub through_a_reader : map (depends 1 out_of_order.tables 1) (0 ∷ 1 ∷ 2 ∷ []) ≡ false ∷ true ∷ true ∷ []
  pub made_constant : moved half_adder (Const 0 false) ≡ constant_sum
  pub row_dropped : moved half_adder (DropRow 0 0) ≡ with_sum (0 ∷ 1 ∷ []) ((Zero ∷ One ∷ []) ∷ [])
  pub literal_dropped : moved half_adder (DropLiteral 0 0 1)
      ≡ with_sum (0 ∷ 1 ∷ []) ((One ∷ Dash ∷ []) ∷ (Zero ∷ One ∷ []) ∷ [])
  pub copied : moved half_adder (Signal 0 3 false) ≡ with_sum (3 ∷ []) ((One ∷ []) ∷ [])
  pub copied_flipped : moved half_adder (Signal 0 3 true) ≡ with_sum (3 ∷ []) ((Zero ∷ []) ∷ [])

-- The reader of a flipped table is evaluated again. Where the sum is flipped, the half adder errs by 1 at
-- every input, and where the carry is flipped, by 2.
pub record FlipExamples : Type 0 where
  pub values : outputs_of out_of_order (false ∷ []) ≡ false ∷ true ∷ false ∷ []
  pub reader_flipped : flipped_outputs out_of_order (false ∷ []) 0 ≡ true ∷ true ∷ false ∷ []
  pub read_flipped : flipped_outputs out_of_order (false ∷ []) 1 ≡ true ∷ false ∷ false ∷ []
  pub sum_flipped :
      map (λ x. error_of (one_word Abs) (outputs_of half_adder x) (flipped_outputs half_adder x 0))
      (all_vectors 2) ≡ 1 ∷ 1 ∷ 1 ∷ 1 ∷ []
  pub carry_flipped :
      map (λ x. error_of (one_word Abs) (outputs_of half_adder x) (flipped_outputs half_adder x 1))
      (all_vectors 2) ≡ 2 ∷ 2 ∷ 2 ∷ 2 ∷ []
  pub carry_moved :
      map (net_error (one_word Abs) half_adder (moved half_adder (DropLiteral 1 0 0))) (all_vectors 2)
      ≡ 0 ∷ 0 ∷ 2 ∷ 0 ∷ []

-- the half adder against itself within 1: at both ones the flipped carry errs by 2, and the flipped sum by 1
pub record CareExamples : Type 0 where
  pub carry : IsCaredFor (one_word Abs) half_adder 1 half_adder 1 (true ∷ true ∷ [])
  pub sum : ¬ IsCaredFor (one_word Abs) half_adder 1 half_adder 0 (true ∷ true ∷ [])
  pub broken : IsBrokenAt (one_word Abs) half_adder 1 half_adder (Const 1 false) (true ∷ true ∷ [])
  pub not_broken : ¬ IsBrokenAt (one_word Abs) half_adder 1 half_adder (Const 1 false) (false ∷ false ∷ [])
