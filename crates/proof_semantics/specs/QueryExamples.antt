-- Worked examples of what queries answer.
use Rattle.std.specs.Prelude.{true, false, List, [], ◌∷◌}
use Rattle.semantics.specs.declared.metric.Kind.TheVariants.{Abs}
use Rattle.semantics.specs.Error.{one_word}
use Rattle.semantics.specs.Error.{net_error}
use Rattle.semantics.specs.Vectors.{IsFirstGreatestAt}
use Rattle.semantics.specs.Examples.{half_adder, constant_sum}
use Rattle.proof_semantics.specs.Logs.{LogItem}
use Rattle.proof_semantics.specs.Queries.{IsOver, SpentValue, IsSpentQuery, IsMaximum}

-- a half adder with the sum 0 is wrong by 1 at 1 and 0, and at 0 and 1
pub record QueryExamples : Type 0 where
  pub first : IsOver (one_word Abs) half_adder constant_sum 0 (true ∷ false ∷ [])
  pub not_the_first : ¬ IsOver (one_word Abs) half_adder constant_sum 0 (false ∷ true ∷ [])
  pub not_above : ¬ IsOver (one_word Abs) half_adder constant_sum 1 (true ∷ false ∷ [])
  pub too_short : ¬ IsOver (one_word Abs) half_adder constant_sum 0 (true ∷ [])
  pub few_inputs : (s : SpentValue) → ¬ IsSpentQuery (one_word Abs) half_adder 1 s
  pub greatest : IsFirstGreatestAt 2 (net_error (one_word Abs) half_adder constant_sum) 1 (true ∷ false ∷ [])
  pub not_the_first_greatest : (log : List LogItem)
      → ¬ IsMaximum (one_word Abs) half_adder constant_sum
      (record { error = 1; witness = false ∷ true ∷ []; log = log })
  pub maximum_too_low : (log : List LogItem)
      → ¬ IsMaximum (one_word Abs) half_adder constant_sum
      (record { error = 0; witness = false ∷ false ∷ []; log = log })
  pub maximum_too_high : (log : List LogItem)
      → ¬ IsMaximum (one_word Abs) half_adder constant_sum
      (record { error = 2; witness = true ∷ false ∷ []; log = log })
