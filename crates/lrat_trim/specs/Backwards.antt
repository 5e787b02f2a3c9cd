-- What a pass from the root to the front of a log does at each item. Source: backward checking of clausal
-- proofs.
use Rattle.std.specs.Prelude.{◌≡◌, ◌↔◌, ℕ, ◌<◌, Bool, true, false, not, ◌&&◌, ◌||◌, nat_lt, List, []}
use Rattle.std.specs.Prelude.{◌∷◌, ◌++◌}
use Rattle.std.specs.Bool.{MatchBool}
use Rattle.std.specs.List.{Contains, AllPairs}
use Rattle.std.specs.BTreeSet.{BTreeSet, contains}
use Rattle.std.specs.Ordering.{nat_cmp}
use Rattle.proof_semantics.specs.declared.item.Item.TheVariants.{Add, Remove}
use Rattle.proof_semantics.specs.Logs.{StepValue, LogItem}
use Rattle.trim_semantics.specs.Kept.{is_empty_clause}
use Rattle.trim_semantics.specs.Trimmed.{removal_of}
use Rattle.trim_semantics.specs.Trimming.{has_id}

abbrev pub adds_empty_clause : LogItem → Bool
adds_empty_clause (Add s) = is_empty_clause s.literals
adds_empty_clause (Remove ids) = false

abbrev pub is_in : BTreeSet ℕ → ℕ → Bool
is_in ids id = contains nat_cmp ids id

-- the id is above those of a formula's clauses, and not named
abbrev pub is_fresh : ℕ → (ℕ → Bool) → ℕ → Bool
is_fresh clauses named id = nat_lt clauses id && not (named id)

-- the fresh ids among the hints, in rising order
pub record AreFresh (clauses : ℕ) (hints : List ℕ) (named : ℕ → Bool) (ids : List ℕ) : Type 0 where
  pub exactly : (id : ℕ) → Contains ids id ↔ (Contains hints id × (is_fresh clauses named id ≡ true))
  pub in_order : AllPairs (λ a b. a < b) ids

-- which ids are named so far, and the kept items, in reverse
pub record KeptSoFar : Type 0 where
  pub named : ℕ → Bool
  pub kept : List LogItem

-- The step is kept: the removal of what it is the last to name, and its addition, join the kept items, which
-- are held in reverse.
pub record KeptStep (clauses : ℕ) (s : StepValue) (old new : KeptSoFar) : Type 0 where
  pub ids : List ℕ
  pub fresh : AreFresh clauses s.hints old.named ids
  pub named : (id : ℕ) → new.named id ≡ (has_id s.hints id || old.named id)
  pub kept : new.kept ≡ (old.kept ++ removal_of ids) ++ Add s ∷ []

pub record Passed (old new : KeptSoFar) : Type 0 where
  pub named : (id : ℕ) → new.named id ≡ old.named id
  pub kept : new.kept ≡ old.kept

-- an addition is kept where it is named
abbrev pub Visited : ℕ → LogItem → (old new : KeptSoFar) → Type 0
Visited clauses (Add s) old new = MatchBool (old.named s.id) (KeptStep clauses s old new) (Passed old new)
Visited clauses (Remove ids) old new = Passed old new
