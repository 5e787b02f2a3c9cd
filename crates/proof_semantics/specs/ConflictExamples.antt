-- Worked examples of chains of conflicts, over the four clauses of two variables.
use Rattle.std.specs.Prelude.{ℕ, ◌^◌, List, [], ◌∷◌, ◌++◌, pos}
use Rattle.proof_semantics.specs.declared.item.Item.TheVariants.{Add}
use Rattle.proof_semantics.specs.Clauses.{Clause}
use Rattle.proof_semantics.specs.Formula.{Formula}
use Rattle.proof_semantics.specs.Logs.{LogItem, IsDerivation}
use Rattle.proof_semantics.specs.Conflicts.{IsConflictChain, IsEnough}
use Rattle.semantics.specs.Examples.{minus}
use Rattle.proof_semantics.specs.Examples.{step}

-- the clauses 1 2, 1 -2, -1 2 and -1 -2, which have the ids 1 to 4, with a third variable that no clause has
abbrev pub four_clauses : Formula
four_clauses = record {
  variables = 3;
  clauses = (pos 1 ∷ pos 2 ∷ []) ∷ (pos 1 ∷ minus 2 ∷ []) ∷ (minus 1 ∷ pos 2 ∷ [])
      ∷ (minus 1 ∷ minus 2 ∷ []) ∷ [];
}

-- the clause 1
abbrev pub first_conflict : List LogItem
first_conflict = Add (step 5 (pos 1 ∷ []) (1 ∷ 2 ∷ [])) ∷ []

-- the clause 1, and then another one
abbrev pub and_then : Clause → List ℕ → List LogItem
and_then clause hints = first_conflict ++ Add (step 6 clause hints) ∷ []

pub record ConflictExamples : Type 0 where
  pub one : IsConflictChain four_clauses 0 1 first_conflict
  pub two : IsConflictChain four_clauses 0 2 (and_then (pos 2 ∷ []) (1 ∷ 3 ∷ []))
  -- the first step is merged; a merged step may have any clause that derives
  pub merged : IsConflictChain four_clauses 1 1 (and_then (pos 2 ∷ []) (1 ∷ 3 ∷ []))
  pub merged_anyhow : IsConflictChain four_clauses 2 0 (and_then (pos 1 ∷ []) (5 ∷ []))
  -- no chain: a clause that was added before, a clause of the formula made longer, a literal with its
  -- negation, the empty clause
  pub repeated : IsDerivation four_clauses (and_then (pos 1 ∷ []) (5 ∷ []))
      × ¬ IsConflictChain four_clauses 0 2 (and_then (pos 1 ∷ []) (5 ∷ []))
  pub merged_repeated : ¬ IsConflictChain four_clauses 1 1 (and_then (pos 1 ∷ []) (5 ∷ []))
  pub lengthened : IsDerivation four_clauses (and_then (minus 1 ∷ pos 2 ∷ pos 3 ∷ []) (3 ∷ []))
      × ¬ IsConflictChain four_clauses 0 2 (and_then (minus 1 ∷ pos 2 ∷ pos 3 ∷ []) (3 ∷ []))
  pub against_itself : IsDerivation four_clauses (and_then (pos 3 ∷ minus 3 ∷ []) (5 ∷ 3 ∷ 4 ∷ []))
      × ¬ IsConflictChain four_clauses 0 2 (and_then (pos 3 ∷ minus 3 ∷ []) (5 ∷ 3 ∷ 4 ∷ []))
  pub empty : IsDerivation four_clauses (and_then [] (5 ∷ 3 ∷ 4 ∷ []))
      × ¬ IsConflictChain four_clauses 0 2 (and_then [] (5 ∷ 3 ∷ 4 ∷ []))
  -- a chain has exactly its number of conflicts
  pub too_many : ¬ IsConflictChain four_clauses 0 1 (and_then (pos 2 ∷ []) (1 ∷ 3 ∷ []))

pub record EnoughExamples : Type 0 where
  pub few_inputs : IsEnough 1 8
  pub nine_inputs : IsEnough 1024 9 × ¬ IsEnough 1023 9
  pub ten_inputs : IsEnough 2048 10 × ¬ IsEnough 2047 10
  pub fifteen_inputs : IsEnough 65536 15 × ¬ IsEnough 65535 15
  pub many_inputs : ¬ IsEnough (2 ^ 63) 16
