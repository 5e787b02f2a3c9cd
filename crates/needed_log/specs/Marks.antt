-- Marks of the places of a log.
use Rattle.std.specs.Prelude.{◌≡◌, ◌↔◌, ◌⊎◌, ℕ, ◌+◌, ◌<◌, ◌≤◌, Bool, List, length, All}
use Rattle.std.specs.List.{Contains}
use Rattle.proof_semantics.specs.Logs.{LogItem}
use Rattle.needed_log.specs.Needed.{hints_at}
use Rattle.needed_log.specs.Kept.{IsMarked}

-- each id is at most that of the last of `places` additions
abbrev pub AreWithin : ℕ → ℕ → List ℕ → Type 0
AreWithin clauses places ids = All (λ id. id ≤ clauses + places) ids

-- the places of the additions among the hints are marked too
pub record AreMarkedToo (clauses : ℕ) (hints : List ℕ) (old new : List Bool) : Type 0 where
  pub count : length new ≡ length old
  pub exactly : (k : ℕ) → k < length old
      → IsMarked new k ↔ (IsMarked old k ⊎ Contains hints (clauses + 1 + k))

-- the first places and the last one are marked, and no others
pub record AreFirstMarks (first places : ℕ) (marks : List Bool) : Type 0 where
  pub count : length marks ≡ places
  pub exactly : (k : ℕ) → k < places → IsMarked marks k ↔ ((k < first) ⊎ (k + 1 ≡ places))

-- The first places and the last are marked, and each place that a marked one from `place` on names. Each
-- other marked place is named by a later marked one, from `place` on.
pub record AreMarked (clauses first place : ℕ) (log : List LogItem) (marks : List Bool) : Type 0 where
  pub count : length marks ≡ length log
  pub early : (k : ℕ) → k < first → IsMarked marks k
  pub last : (k : ℕ) → k + 1 ≡ length log → IsMarked marks k
  pub closed : (k q : ℕ) → place ≤ k → k < length log → q < length log → IsMarked marks k
      → Contains (hints_at log k) (clauses + 1 + q) → IsMarked marks q
  pub needed : (k : ℕ) → first ≤ k → k + 1 < length log → IsMarked marks k
      → (j : ℕ) × (k < j) × (place ≤ j) × (j < length log) × IsMarked marks j
      × Contains (hints_at log j) (clauses + 1 + k)
