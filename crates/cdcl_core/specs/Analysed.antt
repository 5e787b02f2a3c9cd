-- What analysis answers, and the room that it needs.
use Rattle.std.specs.Prelude.{◌≡◌, ℕ, ◌+◌, ◌≤◌, Bool, false, List, length, neg_ℤ, All, reverse}
use Rattle.proof_semantics.specs.Clauses.{Clause, IsLiteralOf}
use Rattle.proof_semantics.specs.Logs.{Derives, held_of}
use Rattle.proof_semantics.specs.Conflicts.{IsNew}
use Rattle.cdcl_core.specs.Trail.{literal_at, IsLearned}
use Rattle.cdcl_core.specs.Placed.{TrailValue}
use Rattle.cdcl_core.specs.Analysis.{mark_at}
use Rattle.cdcl_core.specs.declared.analysis.Learned.{Learned}

-- the clause has one literal of the conflict's level, derives under any id, is new, and is over the variables
-- of the trail
pub record IsAnalysed (clauses : List Clause) (t : TrailValue) (start : ℕ) (r : Learned) : Type 0 where
  pub learned : IsLearned t.literals start r.clause.items (neg_ℤ (literal_at t.literals r.place)) r.place
  pub derives : (id : ℕ) → Derives (held_of clauses)
      (record { id = id; literals = r.clause.items; hints = reverse r.hints.items })
  pub new : IsNew clauses r.clause.items
  pub literals : All (IsLiteralOf t.variables) r.clause.items

-- no entry is marked, and there is room to mark each of `entries` entries, for a literal of each place, and
-- for a hint of each entry and one more
pub record HasRoom (entries : ℕ) (marks : List Bool) (clause hints : ℕ) : Type 0 where
  pub none : (p : ℕ) → mark_at marks p ≡ false
  pub places : entries ≤ length marks
  pub literals : length marks ≤ clause
  pub reasons : entries + 1 ≤ hints
