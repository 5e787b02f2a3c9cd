-- A worked example of the simplifications of a net.
use Rattle.std.specs.Prelude.{true, [], ◌∷◌, codes}
use Rattle.semantics.specs.declared.mark.Mark.TheVariants.{One}
use Rattle.semantics.specs.Net.{NetValue}
use Rattle.semantics.specs.Replaced.{with_table}
use Rattle.semantics.specs.declared.metric.Kind.TheVariants.{Abs}
use Rattle.semantics.specs.Error.{one_word}
use Rattle.semantics.specs.Examples.{half_adder, constant_sum}
use Rattle.chain_semantics.specs.Simplification.{IsSimplificationEnd, IsSimplificationEndFrom}

-- the half adder within 1: its sum becomes constant 0, and then its carry a copy of b
abbrev pub carry_is_b : NetValue
carry_is_b = with_table constant_sum 1
    (record { name = codes "c"; pins = 1 ∷ []; rows = (One ∷ []) ∷ []; plane = true })

-- the same end is reached from the half adder whose sum is constant 0 already
pub record SimplificationExamples : Type 0 where
  pub within_one : IsSimplificationEnd (one_word Abs) half_adder 1 carry_is_b
  pub not_the_read_net : ¬ IsSimplificationEnd (one_word Abs) half_adder 1 half_adder
  pub from_a_beginning : IsSimplificationEndFrom (one_word Abs) half_adder 1 constant_sum carry_is_b
  pub not_the_beginning : ¬ IsSimplificationEndFrom (one_word Abs) half_adder 1 constant_sum constant_sum
