-- What the solver answers.
use Rattle.std.specs.Prelude.{◌≡◌, ℕ, ◌+◌, ◌≤◌, Bool, false, List, length, slice_index_or}
use Rattle.proof_semantics.specs.Clauses.{Satisfies}
use Rattle.proof_semantics.specs.Formula.{Formula}
use Rattle.proof_semantics.specs.Variables.{by_place}
use Rattle.proof_semantics.specs.Logs.{LogItem, Refutes, IsDerivation}
use Rattle.proof_semantics.specs.Conflicts.{IsConflictChain}
use Rattle.cdcl_core.specs.Searched.{Begins}
use Rattle.cdcl_core.specs.declared.answer.Answer.{Answer}
use Rattle.cdcl_core.specs.declared.answer.Answer.TheVariants.{Model, Refuted, Spent}

-- one bit for each variable, with which the formula is satisfied
pub record IsModel (f : Formula) (bits : List Bool) : Type 0 where
  pub width : length bits ≡ f.variables
  pub satisfies : Satisfies (by_place (λ place. slice_index_or bits place false)) f.clauses

-- the merged steps, and behind them at most limit + 1 steps that end in the empty clause
pub record IsRefutation (f : Formula) (merged log : List LogItem) (limit : ℕ) : Type 0 where
  pub begins : Begins merged log
  pub short : length log ≤ length merged + limit + 1
  pub derivation : IsDerivation f log
  pub refutes : Refutes f.clauses log

-- the merged steps, and behind them exactly `limit` conflicts
pub record IsSpent (f : Formula) (merged log : List LogItem) (limit : ℕ) : Type 0 where
  pub begins : Begins merged log
  pub chain : IsConflictChain f (length merged) limit log

abbrev pub IsAnswer : Formula → List LogItem → ℕ → Answer → Type 0
IsAnswer f merged limit (Model bits) = IsModel f bits
IsAnswer f merged limit (Refuted log) = IsRefutation f merged log limit
IsAnswer f merged limit (Spent log) = IsSpent f merged log limit
