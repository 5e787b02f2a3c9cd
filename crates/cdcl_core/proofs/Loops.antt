-- What the loops keep, and where a false clause was made false.
use Rattle.std.specs.Prelude.{◌≡◌, ◌⊎◌, ℕ, ◌<◌, ◌≤◌, Bool, true, false, List, take, length, slice_index, ℤ, neg_ℤ, All}
use Rattle.std.specs.List.{Contains}
use Rattle.proof_semantics.specs.Clauses.{Clause}
use Rattle.cdcl_core.specs.Trail.{literal_at}
use Rattle.cdcl_core.specs.Explained.{IsMarked}
use Rattle.cdcl_core.specs.Analysis.{mark_at}

-- a literal of D is false by an entry from s on
pub record HasEntryFrom (trail : List ℤ) (s : ℕ) (D : Clause) : Type 0 where
  pub literal : ℤ
  pub inside : Contains D literal
  pub place : ℕ
  pub from : s ≤ place
  pub within : place < length trail
  pub is : literal_at trail place ≡ neg_ℤ literal

-- C is the negations of the literals of the marked entries among the first i places that are listed
pub record IsClauseSoFar (trail : List ℤ) (marks : List Bool) (touched : List ℕ) (C : Clause) (i : ℕ) : Type 0 where
  pub each : (k : ℕ) → k < i → slice_index touched k < length trail → mark_at marks (slice_index touched k) ≡ true → Contains C (neg_ℤ (literal_at trail (slice_index touched k)))
  pub all : All (λ a. IsMarked trail marks (neg_ℤ a)) C

-- nothing after place p is marked
pub record IsLastFrom (marks : List Bool) (low high p : ℕ) : Type 0 where
  pub from : low ≤ p
  pub below : p < high
  pub last : (q : ℕ) → p < q → q < high → mark_at marks q ≡ false

-- nothing from place p on is marked
pub record IsNoneFrom (marks : List Bool) (low high p : ℕ) : Type 0 where
  pub from : low ≤ p
  pub below : p ≤ high
  pub last : (q : ℕ) → p ≤ q → q < high → mark_at marks q ≡ false

-- marks were added before bound for the first n literals of a clause
pub record IsMarking (trail : List ℤ) (old new : List Bool) (C : Clause) (own : ℤ) (bound n : ℕ) : Type 0 where
  pub same_length : length new ≡ length old
  pub kept : (p : ℕ) → mark_at old p ≡ true → mark_at new p ≡ true
  pub below : (p : ℕ) → bound ≤ p → mark_at new p ≡ true → mark_at old p ≡ true
  pub marked : All (λ a. (a ≡ own) ⊎ IsMarked trail new (neg_ℤ a)) (take n C)

-- top is the last marked place
pub record IsReaching (trail : List ℤ) (old marks : List Bool) (start top : ℕ) : Type 0 where
  pub same_length : length marks ≡ length old
  pub from : start ≤ top
  pub within : top < length trail
  pub marked : mark_at marks top ≡ true
  pub last : (p : ℕ) → top < p → p < length trail → mark_at marks p ≡ false
