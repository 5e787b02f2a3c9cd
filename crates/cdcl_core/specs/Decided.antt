-- Decisions, and where there is none left.
use Rattle.std.specs.Prelude.{◌≡◌, ◌⊎◌, ℕ, suc, ◌<◌, ◌↔◌, Bool, false, IsTrue, List, length, slice_index_or}
use Rattle.std.specs.Prelude.{ℤ, pos, neg_ℤ}
use Rattle.proof_semantics.specs.Clauses.{IsLiteralOf}
use Rattle.cdcl_core.specs.Settled.{IsOpen}
use Rattle.cdcl_core.specs.Explained.{Holds}
use Rattle.cdcl_core.specs.Placed.{TrailValue}

-- an open literal of one of the variables
pub record IsDecision (t : TrailValue) (l : ℤ) : Type 0 where
  pub literal : IsLiteralOf t.variables l
  pub open_literal : IsOpen (Holds t.literals) l

-- each variable has a value
abbrev pub IsFull : TrailValue → Type 0
IsFull t = (v : ℕ) → v < t.variables → Holds t.literals (pos (suc v)) ⊎ Holds t.literals (neg_ℤ (pos (suc v)))

-- one bit for each variable, which says whether the variable is true
pub record AreValues (t : TrailValue) (bits : List Bool) : Type 0 where
  pub width : length bits ≡ t.variables
  pub each : (v : ℕ) → v < t.variables → IsTrue (slice_index_or bits v false) ↔ Holds t.literals (pos (suc v))
