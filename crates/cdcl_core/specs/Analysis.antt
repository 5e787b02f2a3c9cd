-- Analysis by marks on the entries of the trail. Source: GRASP and MiniSat.
use Rattle.std.specs.Prelude.{ℤ, neg_ℤ, ◌≡◌, ◌⊎◌, ℕ, ◌<◌, ◌≤◌, Bool, true, false, List, length}
use Rattle.std.specs.Prelude.{slice_index_or, All}
use Rattle.std.specs.List.{Contains}
use Rattle.proof_semantics.specs.Clauses.{Clause}
use Rattle.cdcl_core.specs.Trail.{literal_at}
use Rattle.cdcl_core.specs.Explained.{IsMarked}

abbrev pub mark_at : List Bool → ℕ → Bool
mark_at marks p = slice_index_or marks p false

-- exactly one entry from s on is marked
pub record IsOneFrom (trail : List ℤ) (marks : List Bool) (s at : ℕ) : Type 0 where
  pub from : s ≤ at
  pub within : at < length trail
  pub marked : mark_at marks at ≡ true
  pub only : (p : ℕ) → s ≤ p → p < length trail → mark_at marks p ≡ true → p ≡ at

-- C is the negations of the marked entries' literals
pub record IsClauseOf (trail : List ℤ) (marks : List Bool) (C : Clause) : Type 0 where
  pub each : (p : ℕ) → p < length trail → mark_at marks p ≡ true → Contains C (neg_ℤ (literal_at trail p))
  pub all : All (λ a. IsMarked trail marks (neg_ℤ a)) C

-- the last marked place from low to below high
pub record IsHighest (marks : List Bool) (low high p : ℕ) : Type 0 where
  pub from : low ≤ p
  pub below : p < high
  pub marked : mark_at marks p ≡ true
  pub last : (q : ℕ) → p < q → q < high → mark_at marks q ≡ false

-- a place from start to below n is marked
pub record IsMarkedFrom (marks : List Bool) (start n : ℕ) : Type 0 where
  pub place : ℕ
  pub from : start ≤ place
  pub within : place < n
  pub marked : mark_at marks place ≡ true

-- the marks from start on are the same
pub record IsShortened (old new : List Bool) (start : ℕ) : Type 0 where
  pub same_length : length new ≡ length old
  pub kept : (p : ℕ) → start ≤ p → mark_at old p ≡ true → mark_at new p ≡ true
  pub only : (p : ℕ) → start ≤ p → mark_at new p ≡ true → mark_at old p ≡ true

-- the literals of a clause other than `own`, which entries before `bound` make false
pub record OtherLiterals : Type 0 where
  pub clause : Clause
  pub own : ℤ
  pub bound : ℕ

-- marks were added, before the bound, at the entries that make these other literals false
pub record AreOthersMarked (trail : List ℤ) (old new : List Bool) (others : OtherLiterals) : Type 0 where
  pub same_length : length new ≡ length old
  pub kept : (p : ℕ) → mark_at old p ≡ true → mark_at new p ≡ true
  pub below : (p : ℕ) → others.bound ≤ p → mark_at new p ≡ true → mark_at old p ≡ true
  pub marked : All (λ a. (a ≡ others.own) ⊎ IsMarked trail new (neg_ℤ a)) others.clause
