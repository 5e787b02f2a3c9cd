-- The laws that the solver stands on, each the contract of a function without parameters.
use Rattle.std.specs.Prelude.{None, ◌≡◌, ◌≢◌, ◌⊎◌, ℕ, suc, ◌<◌, ◌≤◌, Bool, true, false, List, [], ◌∷◌, ◌++◌}
use Rattle.std.specs.Prelude.{take, length, slice_index_or, ℤ, neg_ℤ, All}
use Rattle.std.specs.List.{Contains}
use Rattle.proof_semantics.specs.Clauses.{Clause}
use Rattle.proof_semantics.specs.Logs.{StepValue, Derives, held_of}
use Rattle.proof_semantics.specs.Conflicts.{IsNew, clause_at}
use Rattle.cdcl_core.specs.Settled.{IsSettled, IsFalse}
use Rattle.cdcl_core.specs.Trail.{literal_at, IsTrueBelow, IsConsistent, IsReason, IsSettledBelow, IsLearned}
use Rattle.cdcl_core.specs.Explained.{Holds, IsMarked, IsExplained}
use Rattle.cdcl_core.specs.Placed.{TrailValue}
use Rattle.cdcl_core.specs.Propagation.{IsExtended}
use Rattle.cdcl_core.specs.Jump.{IsRunning, IsJump, jumped}

-- A learned clause contains no clause that was settled below the conflict's level. Such a clause has a true
-- literal there, and the learned clause has none; or it has two open literals there, and the learned clause
-- has one.
abbrev pub NewClauseLaw : Type 0
NewClauseLaw = (clauses : List Clause) (trail : List ℤ) (s : ℕ) (C : Clause) (u : ℤ) (at : ℕ)
    → IsConsistent trail
    → IsSettled (IsTrueBelow trail s) clauses → IsLearned trail s C u at → IsNew clauses C

-- Going back keeps what is settled below each open level.
pub record BackLaw : Type 0 where
  -- two literals of the learned clause are open below each start up to the entry of one of its other literals
  pub learned : (clauses : List Clause) (trail : List ℤ) (starts : List ℕ) (s : ℕ) (C : Clause) (u : ℤ)
      (at : ℕ) (w : ℤ) (place : ℕ) → IsConsistent trail
      → IsSettledBelow clauses trail starts → IsLearned trail s C u at
      → Contains C w → place < s → literal_at trail place ≡ neg_ℤ w → All (λ t. t ≤ place) starts
      → IsSettledBelow (clauses ++ C ∷ []) trail starts
  -- what stands behind the last start does not matter
  pub cut : (clauses : List Clause) (before after : List ℤ) (starts : List ℕ) (q : ℕ)
      → All (λ t. t ≤ q) starts → q ≤ length before → q ≤ length after
      → take q before ≡ take q after → IsSettledBelow clauses before starts
      → IsSettledBelow clauses after starts

-- Analysis from the conflict back over the trail: the marks are at the entries that are still to be
-- explained.
pub record DerivesLaw : Type 0 where
  -- the conflict's clause is the last hint, and the entries of its literals are marked
  pub conflict : (clauses : List Clause) (trail : List ℤ) (marks : List Bool) (j : ℕ) → j < length clauses
      → All (λ a. IsMarked trail marks (neg_ℤ a)) (clause_at clauses j)
      → IsExplained clauses trail marks (suc j ∷ [])
  -- an entry is replaced by the entries of the other literals of its reason, and the reason goes before the
  -- hints
  pub resolved : (clauses : List Clause) (trail : List ℤ) (marks after : List Bool) (hints : List ℕ)
      (i j : ℕ) → IsConsistent trail → i < length trail → IsReason clauses trail i j
      → ((p : ℕ) → p ≢ i → slice_index_or marks p false ≡ true → slice_index_or after p false ≡ true)
      → All (λ a. (a ≡ literal_at trail i) ⊎ IsMarked trail after (neg_ℤ a)) (clause_at clauses j)
      → IsExplained clauses trail marks hints → IsExplained clauses trail after (suc j ∷ hints)
  -- the clause of the marked literals' negations derives
  pub derives : (clauses : List Clause) (trail : List ℤ) (marks : List Bool) (s : StepValue)
      → IsFalse (Holds trail) s.literals
      → ((p : ℕ) → p < length trail → slice_index_or marks p false ≡ true
      → Contains s.literals (neg_ℤ (literal_at trail p)))
      → IsExplained clauses trail marks s.hints → Derives (held_of clauses) s

-- The steps of the search keep what holds between them.
pub record SearchLaw : Type 0 where
  -- the learned clause is added, the levels of its other literals stay, and its literal of the conflict's
  -- level follows
  pub jumped : (clauses : List Clause) (t : TrailValue) (s : ℕ) (C : Clause) (u : ℤ) (at m : ℕ)
      → IsConsistent t.literals → IsRunning clauses t
      → IsLearned t.literals s C u at → IsJump t s C u m
      → IsRunning (clauses ++ C ∷ []) (jumped clauses t u m)
  -- a decision is made where everything is settled
  pub decided : (clauses : List Clause) (t : TrailValue) (l : ℤ) → IsRunning clauses t
      → IsSettled (Holds t.literals) clauses
      → IsRunning clauses (record t {
        literals = t.literals ++ l ∷ [];
        reasons = t.reasons ++ None ∷ [];
        starts = t.starts ++ length t.literals ∷ [];
      })
  -- propagation adds entries
  pub extended : (clauses : List Clause) (old new : TrailValue) → IsRunning clauses old
      → IsExtended clauses old new → IsRunning clauses new
