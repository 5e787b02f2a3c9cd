-- The laws about chains of conflicts, each the contract of a function without parameters.
use Rattle.std.specs.Prelude.{◌≡◌, ℕ, ◌+◌, ◌^◌, ◌<◌, ◌≤◌, List, [], ◌∷◌, ◌++◌, length, All}
use Rattle.proof_semantics.specs.declared.item.Item.TheVariants.{Add}
use Rattle.proof_semantics.specs.Clauses.{IsLiteralOf}
use Rattle.proof_semantics.specs.Formula.{Formula}
use Rattle.proof_semantics.specs.Logs.{StepValue, LogItem, Derives, held_of, IsDerivation, Refutes}
use Rattle.proof_semantics.specs.Conflicts.{IsPartOf, IsNew, clause_at, added_clauses, clauses_with}
use Rattle.proof_semantics.specs.Conflicts.{IsConflictChain, IsEnough}

-- the step has the next id, its literals are of the formula's variables, and its clause derives from all
-- clauses before it
pub record IsNextStep (f : Formula) (log : List LogItem) (s : StepValue) : Type 0 where
  pub id : s.id ≡ length f.clauses + length log + 1
  pub short : s.id < 2 ^ 63
  pub literals : All (IsLiteralOf f.variables) s.literals
  pub derives : Derives (held_of (clauses_with f.clauses log)) s

-- A derivation goes on by a step, and refutes where that step's clause is empty.
pub record DerivationLaw : Type 0 where
  pub next : (f : Formula) (log : List LogItem) (s : StepValue) → IsDerivation f log → IsNextStep f log s
      → IsDerivation f (log ++ Add s ∷ [])
  pub refutes : (f : Formula) (log : List LogItem) (s : StepValue) → IsDerivation f log → IsNextStep f log s
      → s.literals ≡ [] → Refutes f.clauses (log ++ Add s ∷ [])

-- A chain of conflicts begins with a derivation and goes on by steps whose clause is new; no clause of a
-- conflict contains an earlier clause.
pub record ConflictLaw : Type 0 where
  pub none : (f : Formula) (log : List LogItem) → IsDerivation f log → IsConflictChain f (length log) 0 log
  pub next : (f : Formula) (merged conflicts : ℕ) (log : List LogItem) (s : StepValue)
      → IsConflictChain f merged conflicts log → IsNextStep f log s
      → IsNew (clauses_with f.clauses log) s.literals
      → IsConflictChain f merged (conflicts + 1) (log ++ Add s ∷ [])
  pub differ : (f : Formula) (merged conflicts : ℕ) (log : List LogItem)
      → IsConflictChain f merged conflicts log → (j k : ℕ) → j < k → merged ≤ k → k < merged + conflicts
      → ¬ IsPartOf (clause_at (added_clauses log) j) (clause_at (added_clauses log) k)

-- conflicts that are enough stay enough with a higher limit and with fewer inputs
abbrev pub EnoughLaw : Type 0
EnoughLaw = (limit more inputs fewer : ℕ) → limit ≤ more → fewer ≤ inputs → IsEnough limit inputs
    → IsEnough more fewer
