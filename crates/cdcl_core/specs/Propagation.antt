-- What propagation does. Source: unit propagation of Davis, Logemann and Loveland.
use Rattle.std.specs.Prelude.{◌≡◌, ℕ, ◌<◌, ◌≤◌, List, take, length}
use Rattle.proof_semantics.specs.Clauses.{Clause}
use Rattle.proof_semantics.specs.Conflicts.{clause_at}
use Rattle.cdcl_core.specs.Settled.{IsFalse}
use Rattle.cdcl_core.specs.Trail.{IsTrail}
use Rattle.cdcl_core.specs.Explained.{Holds}
use Rattle.cdcl_core.specs.Placed.{TrailValue}

-- entries that follow by their reasons were added
pub record IsExtended (clauses : List Clause) (old new : TrailValue) : Type 0 where
  pub variables : new.variables ≡ old.variables
  pub starts : new.starts ≡ old.starts
  pub longer : length old.literals ≤ length new.literals
  pub before : take (length old.literals) new.literals ≡ old.literals
  pub follows : IsTrail clauses old.literals old.reasons old.starts
      → IsTrail clauses new.literals new.reasons new.starts

-- a clause is false
pub record IsConflict (clauses : List Clause) (t : TrailValue) (j : ℕ) : Type 0 where
  pub within : j < length clauses
  pub false_clause : IsFalse (Holds t.literals) (clause_at clauses j)
