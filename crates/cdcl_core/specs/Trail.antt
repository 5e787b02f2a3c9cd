-- The trail: the literals that are true, in the order in which they became so. A level opens at its start, a
-- place of the trail. Source: the implication graph of GRASP.
use Rattle.std.specs.Prelude.{ℤ, neg_ℤ, pos, ◌≡◌, ◌≢◌, ◌⊎◌, ℕ, zero, ◌<◌, ◌≤◌, Option, Some, None, List}
use Rattle.std.specs.Prelude.{length, slice_index_or, All, AllPairs}
use Rattle.std.specs.List.{Contains}
use Rattle.proof_semantics.specs.Clauses.{Clause}
use Rattle.proof_semantics.specs.Conflicts.{clause_at}
use Rattle.cdcl_core.specs.Settled.{IsSettled}

abbrev pub literal_at : List ℤ → ℕ → ℤ
literal_at trail i = slice_index_or trail i (pos zero)

abbrev pub reason_at : List (Option ℕ) → ℕ → Option ℕ
reason_at reasons i = slice_index_or reasons i None

-- l is true by an entry before place s
pub record IsTrueBelow (trail : List ℤ) (s : ℕ) (l : ℤ) : Type 0 where
  pub place : ℕ
  pub below : place < s
  pub within : place < length trail
  pub is : literal_at trail place ≡ l

-- no variable twice
pub record IsConsistent (trail : List ℤ) : Type 0 where
  pub distinct : (i j : ℕ) → i < length trail → j < length trail → literal_at trail i ≡ literal_at trail j
      → i ≡ j
  pub consistent : (i j : ℕ) → i < length trail → j < length trail
      → literal_at trail i ≢ neg_ℤ (literal_at trail j)

-- clause j made entry i true: it has the entry's literal, and its other literals were false before
pub record IsReason (clauses : List Clause) (trail : List ℤ) (i j : ℕ) : Type 0 where
  pub held : j < length clauses
  pub inside : Contains (clause_at clauses j) (literal_at trail i)
  pub others : All (λ a. (a ≡ literal_at trail i) ⊎ IsTrueBelow trail i (neg_ℤ a)) (clause_at clauses j)

-- an entry with a reason follows by the reason, and an entry without one opens a level
pub record IsTrail (clauses : List Clause) (trail : List ℤ) (reasons : List (Option ℕ))
    (starts : List ℕ) : Type 0 where
  pub same_length : length reasons ≡ length trail
  pub reason : (i j : ℕ) → i < length trail → reason_at reasons i ≡ Some j → IsReason clauses trail i j
  pub decision : (i : ℕ) → i < length trail → reason_at reasons i ≡ None → Contains starts i

-- the starts rise, and each is the place of an entry
pub record AreLevels (trail : List ℤ) (starts : List ℕ) : Type 0 where
  pub rising : AllPairs (λ s t. s < t) starts
  pub within : All (λ s. s < length trail) starts

-- each clause is settled below each open level
abbrev pub IsSettledBelow : List Clause → List ℤ → List ℕ → Type 0
IsSettledBelow clauses trail starts = All (λ s. IsSettled (IsTrueBelow trail s) clauses) starts

-- C is false, by the literal u at or behind the start s, and otherwise by entries before s
pub record IsLearned (trail : List ℤ) (s : ℕ) (C : Clause) (u : ℤ) (at : ℕ) : Type 0 where
  pub inside : Contains C u
  pub after : s ≤ at
  pub within : at < length trail
  pub is : literal_at trail at ≡ neg_ℤ u
  pub others : All (λ a. (a ≡ u) ⊎ IsTrueBelow trail s (neg_ℤ a)) C
