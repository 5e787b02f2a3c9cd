-- Trimmed logs. Of a log that refutes a formula, the trimmed log has only the additions from which the empty
-- clause follows. It removes each of these as soon as no further addition names it, but for those that the
-- empty clause is the last to name. Its order is that of the ids, which rise along such a log. Source: proof
-- trimming by backward checking, with the removals of LRAT.
use Rattle.std.specs.Prelude.{◌≡◌, ◌↔◌, ℕ, ◌<◌, ◌≤◌, List, [], ◌∷◌, ◌++◌, Some}
use Rattle.std.specs.List.{Contains, AllPairs}
use Rattle.proof_semantics.specs.declared.item.Item.TheVariants.{Add, Remove}
use Rattle.proof_semantics.specs.Logs.{StepValue, LogItem}
use Rattle.trim_semantics.specs.Kept.{root_of, IsKept}

-- the kept additions of a log, in its order
pub record AreKept (log : List LogItem) (steps : List StepValue) : Type 0 where
  pub exactly : (s : StepValue) → Contains steps s ↔ IsKept log s
  pub in_order : AllPairs (λ s t. s.id < t.id) steps

-- the addition s is the last kept one that has the id of the kept addition t among its hints
pub record IsLastToName (log : List LogItem) (s t : StepValue) : Type 0 where
  pub kept : IsKept log t
  pub named : Contains s.hints t.id
  pub last : (u : StepValue) → IsKept log u → Contains u.hints t.id → u.id ≤ s.id

-- the ids that end after a kept addition s, in rising order: the ids that s is the last to name; after the
-- root no id ends
pub record AreEndedAfter (log : List LogItem) (s : StepValue) (ids : List ℕ) : Type 0 where
  pub exactly : (id : ℕ) → Contains ids id
      ↔ ((¬ (root_of log ≡ Some s)) × ((t : StepValue) × (t.id ≡ id) × IsLastToName log s t))
  pub in_order : AllPairs (λ a b. a < b) ids

-- one removal, or nothing where there is no id
abbrev pub removal_of : List ℕ → List LogItem
removal_of [] = []
removal_of (id ∷ ids) = Remove (id ∷ ids) ∷ []

-- each of the steps stands unchanged, and behind it the removal of what ends after it
abbrev pub IsListOf : List LogItem → List StepValue → List LogItem → Type 0
IsListOf log [] short = short ≡ []
IsListOf log (s ∷ steps) short =
    (ids : List ℕ) × (rest : List LogItem) × AreEndedAfter log s ids
    × (short ≡ Add s ∷ (removal_of ids ++ rest)) × IsListOf log steps rest

pub record IsTrimmed (log short : List LogItem) : Type 0 where
  pub steps : List StepValue
  pub kept : AreKept log steps
  pub lists : IsListOf log steps short
