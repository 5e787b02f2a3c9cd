-- Worked examples of trimmed logs over the clauses 1, -1 2 and -2, which have the ids 1 to 3.
use Rattle.std.specs.Prelude.{List, [], ◌∷◌, ◌++◌, pos}
use Rattle.semantics.specs.Examples.{minus}
use Rattle.proof_semantics.specs.declared.item.Item.TheVariants.{Add, Remove}
use Rattle.proof_semantics.specs.Logs.{LogItem, Refutes}
use Rattle.proof_semantics.specs.Examples.{step, three_clauses, refutation}
use Rattle.trim_semantics.specs.Trimmed.{IsTrimmed}

-- the clause 2, and the empty clause from it
abbrev pub by_way_of_2 : List LogItem
by_way_of_2 = Add (step 4 (pos 2 ∷ []) (1 ∷ 2 ∷ [])) ∷ Add (step 6 [] (4 ∷ 3 ∷ [])) ∷ []

-- `by_way_of_2` with one more step, the clause -1, which nothing names
abbrev pub with_an_idle_step : List LogItem
with_an_idle_step = Add (step 4 (pos 2 ∷ []) (1 ∷ 2 ∷ [])) ∷ Add (step 5 (minus 1 ∷ []) (2 ∷ 3 ∷ []))
    ∷ Add (step 6 [] (4 ∷ 3 ∷ [])) ∷ []

-- the clause 2 once more from itself
abbrev pub with_a_copy : List LogItem
with_a_copy = Add (step 4 (pos 2 ∷ []) (1 ∷ 2 ∷ [])) ∷ Add (step 5 (pos 2 ∷ []) (4 ∷ []))
    ∷ Add (step 6 [] (5 ∷ 3 ∷ [])) ∷ []

abbrev pub with_a_copy_trimmed : List LogItem
with_a_copy_trimmed =
    Add (step 4 (pos 2 ∷ []) (1 ∷ 2 ∷ [])) ∷ Add (step 5 (pos 2 ∷ []) (4 ∷ [])) ∷ Remove (4 ∷ [])
    ∷ Add (step 6 [] (5 ∷ 3 ∷ [])) ∷ []

-- the removal one step too early
abbrev pub with_an_early_removal : List LogItem
with_an_early_removal =
    Add (step 4 (pos 2 ∷ []) (1 ∷ 2 ∷ [])) ∷ Remove (4 ∷ []) ∷ Add (step 5 (pos 2 ∷ []) (4 ∷ []))
    ∷ Add (step 6 [] (5 ∷ 3 ∷ [])) ∷ []

-- a removal and the empty clause once more, behind the empty clause
abbrev pub with_more_behind : List LogItem
with_more_behind = refutation ++ Remove (1 ∷ []) ∷ Add (step 5 [] (4 ∷ [])) ∷ []

pub record TrimExamples : Type 0 where
  pub idle_step : Refutes three_clauses with_an_idle_step × IsTrimmed with_an_idle_step by_way_of_2
  pub copy : Refutes three_clauses with_a_copy × IsTrimmed with_a_copy with_a_copy_trimmed
  pub in_one_step : IsTrimmed refutation refutation
  pub more_behind : Refutes three_clauses with_more_behind × IsTrimmed with_more_behind refutation
  pub not_unchanged : ¬ IsTrimmed with_an_idle_step with_an_idle_step
  pub not_early : ¬ IsTrimmed with_a_copy with_an_early_removal
