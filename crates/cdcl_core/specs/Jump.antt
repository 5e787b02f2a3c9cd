-- Going back after a conflict. Source: the jump of GRASP and Chaff.
use Rattle.std.specs.Prelude.{ℤ, neg_ℤ, ◌≡◌, ◌⊎◌, ℕ, ◌+◌, ◌<◌, ◌≤◌, max, Option, None, Some, List, [], ◌∷◌}
use Rattle.std.specs.Prelude.{◌++◌, take, length, slice_index_or, All}
use Rattle.std.specs.List.{Contains}
use Rattle.proof_semantics.specs.Clauses.{Clause}
use Rattle.cdcl_core.specs.Trail.{literal_at, IsTrueBelow, IsTrail, AreLevels, IsSettledBelow}
use Rattle.cdcl_core.specs.Placed.{TrailValue}

-- what holds of the trail before each decision and after each jump back
pub record IsRunning (clauses : List Clause) (t : TrailValue) : Type 0 where
  pub trail : IsTrail clauses t.literals t.reasons t.starts
  pub levels : AreLevels t.literals t.starts
  pub settled : IsSettledBelow clauses t.literals t.starts

-- a literal of C is false by an entry before s that stands at or behind each of the first m starts
pub record HasLast (t : TrailValue) (s : ℕ) (C : Clause) (m : ℕ) : Type 0 where
  pub literal : ℤ
  pub inside : Contains C literal
  pub place : ℕ
  pub below : place < s
  pub is : literal_at t.literals place ≡ neg_ℤ literal
  pub last : All (λ r. r ≤ place) (take m t.starts)

-- `HasLast`, of a given literal
pub record HasLastAs (t : TrailValue) (s : ℕ) (C : Clause) (m : ℕ) (literal : ℤ) : Type 0 where
  pub inside : Contains C literal
  pub place : ℕ
  pub below : place < s
  pub is : literal_at t.literals place ≡ neg_ℤ literal
  pub last : All (λ r. r ≤ place) (take m t.starts)

-- what the learned clause watches besides u
abbrev pub IsJumpPair : TrailValue → ℕ → Clause → ℤ → ℕ → ℤ → Type 0
IsJumpPair t s C u m other = ((m ≡ 0) × (other ≡ u)) ⊎ HasLastAs t s C m other

-- the levels that stay are those of the clause's literals other than u
pub record IsJump (t : TrailValue) (s : ℕ) (C : Clause) (u : ℤ) (m : ℕ) : Type 0 where
  pub within : m < length t.starts
  pub others : All (λ a. (a ≡ u) ⊎ IsTrueBelow t.literals (slice_index_or t.starts m 0) (neg_ℤ a)) C
  pub last : (m ≡ 0) ⊎ HasLast t s C m

-- m levels stay, and u follows by the clause that is added
abbrev pub jumped : List Clause → TrailValue → ℤ → ℕ → TrailValue
jumped clauses t u m = record t {
  literals = take (slice_index_or t.starts m 0) t.literals ++ u ∷ [];
  reasons = take (slice_index_or t.starts m 0) t.reasons ++ Some (length clauses) ∷ [];
  starts = take m t.starts;
}

-- m levels stay
abbrev pub closed : TrailValue → ℕ → TrailValue
closed t m = record t {
  literals = take (slice_index_or t.starts m 0) t.literals;
  reasons = take (slice_index_or t.starts m 0) t.reasons;
  starts = take m t.starts;
}

abbrev pub later_of : Option ℕ → ℕ → ℕ
later_of None p = p
later_of (Some q) p = max q p

-- p is the place of a literal of C other than own, and the literals of D other than own stand no later
pub record IsOther (trail : List ℤ) (start : ℕ) (own : ℤ) (C D : Clause) (p : ℕ) : Type 0 where
  pub literal : ℤ
  pub inside : Contains C literal
  pub below : p < start
  pub within : p < length trail
  pub is : literal_at trail p ≡ neg_ℤ literal
  pub others : All (λ a. (a ≡ own) ⊎ IsTrueBelow trail (p + 1) (neg_ℤ a)) D

abbrev pub IsLastOther : List ℤ → ℕ → ℤ → Clause → Clause → Option ℕ → Type 0
IsLastOther trail start own C D None = All (λ a. a ≡ own) D
IsLastOther trail start own C D (Some p) = IsOther trail start own C D p
