-- Chains of conflicts, that is logs in which each clause says something that the clauses before it do not say
-- already; and which number of conflicts is enough for the inputs of a net. Source: clause learning by first
-- unique implication points after complete propagation, whose clauses are such; nothing here speaks of
-- decisions, levels or watches.
use Rattle.std.specs.Prelude.{◌≡◌, ◌⊎◌, ℕ, ◌+◌, ◌^◌, ◌<◌, ◌≤◌, List, [], ◌∷◌, ◌++◌, take, length}
use Rattle.std.specs.Prelude.{slice_index_or, ℤ, neg_ℤ, All}
use Rattle.std.specs.List.{Contains}
use Rattle.semantics.specs.declared.limits.TheConstants.{FEW_INPUTS, MOST_CASE_INPUTS}
use Rattle.proof_semantics.specs.declared.item.Item.TheVariants.{Add, Remove}
use Rattle.proof_semantics.specs.Clauses.{Clause}
use Rattle.proof_semantics.specs.Formula.{Formula}
use Rattle.proof_semantics.specs.Logs.{LogItem, IsDerivation}

abbrev pub clause_at : List Clause → ℕ → Clause
clause_at clauses k = slice_index_or clauses k []

-- each literal of the first clause stands in the second
abbrev pub IsPartOf : Clause → Clause → Type 0
IsPartOf part clause = All (Contains clause) part

-- the clause is not empty, has no literal together with its negation, and contains none of the clauses
pub record IsNew (clauses : List Clause) (clause : Clause) : Type 0 where
  pub some : 0 < length clause
  pub plain : (l : ℤ) → Contains clause l → ¬ Contains clause (neg_ℤ l)
  pub apart : All (λ part. ¬ IsPartOf part clause) clauses

-- the clauses that a log adds, in its order
abbrev pub added_clauses : List LogItem → List Clause
added_clauses [] = []
added_clauses (Add s ∷ log) = s.literals ∷ added_clauses log
added_clauses (Remove ids ∷ log) = added_clauses log

-- the clauses of a formula, and then those that a log adds
abbrev pub clauses_with : List Clause → List LogItem → List Clause
clauses_with formula log = formula ++ added_clauses log

-- Behind its first `merged` steps the log has `conflicts` conflicts: it is a derivation, and each clause
-- behind the merged ones is new beyond the formula and all clauses that were added before.
pub record IsConflictChain (f : Formula) (merged conflicts : ℕ) (log : List LogItem) : Type 0 where
  pub derivation : IsDerivation f log
  pub count : length log ≡ merged + conflicts
  pub new : (k : ℕ) → merged ≤ k → k < merged + conflicts
      → IsNew (f.clauses ++ take k (added_clauses log)) (clause_at (added_clauses log) k)

-- `limit` conflicts are enough for `inputs` inputs: the inputs are few, or there are two conflicts for each
-- input vector
abbrev pub IsEnough : ℕ → ℕ → Type 0
IsEnough limit inputs = (inputs ≤ FEW_INPUTS) ⊎ ((inputs ≤ MOST_CASE_INPUTS) × (2 ^ (inputs + 1) ≤ limit))
