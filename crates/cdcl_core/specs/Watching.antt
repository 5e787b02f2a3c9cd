-- Watched literals: each clause watches two of its literals, and where it has no true literal neither of them
-- is false, as far as the entries of the trail have been handled. Source: Chaff, with the blockers of
-- MiniSat.
use Rattle.std.specs.Prelude.{◌≡◌, ◌≢◌, ◌⊎◌, ℕ, ◌+◌, ◌*◌, ◌<◌, ◌≤◌, true, List, length, ℤ, neg_ℤ, All}
use Rattle.std.specs.List.{Contains}
use Rattle.proof_semantics.specs.Clauses.{Clause, AreClausesOf}
use Rattle.proof_semantics.specs.Conflicts.{clause_at}
use Rattle.cdcl_core.specs.Settled.{HasTrue}
use Rattle.cdcl_core.specs.Trail.{literal_at, IsTrueBelow}
use Rattle.cdcl_core.specs.Explained.{Holds}
use Rattle.cdcl_core.specs.Placed.{TrailValue}
use Rattle.cdcl_core.specs.Watched.{IsBinary}
use Rattle.cdcl_core.specs.Watches.{WatchesValue, list_at, watch_at, pair_at}
use Rattle.cdcl_core.specs.declared.watches.Watch.{Watch}
use Rattle.cdcl_core.specs.declared.watches.Pair.{Pair}

-- l is one of the two
abbrev pub IsOneOf : Pair → ℤ → Type 0
IsOneOf p l = (l ≡ p.one) ⊎ (l ≡ p.other)

-- two different literals, neither of which is false
pub record AreFree (F : ℤ → Type 0) (p : Pair) : Type 0 where
  pub differ : p.one ≢ p.other
  pub one : F (neg_ℤ p.one) → ⊥
  pub other : F (neg_ℤ p.other) → ⊥

-- the clause has a true literal, or else neither of the two literals that it watches is false
abbrev pub IsKept : (ℤ → Type 0) → (ℤ → Type 0) → Clause → Pair → Type 0
IsKept T F C p = HasTrue T C ⊎ AreFree F p

pub record AreKept (T F : ℤ → Type 0) (clauses : List Clause) (pairs : List Pair) : Type 0 where
  pub each : (j : ℕ) → j < length clauses → IsKept T F (clause_at clauses j) (pair_at pairs j)

-- a watcher of clause j stands in the list, from place `at` on unless T holds
pub record HasWatcher (list : List Watch) (at j : ℕ) (T : Type 0) : Type 0 where
  pub place : ℕ
  pub within : place < length list
  pub is : (watch_at list place).clause ≡ j
  pub later : (at ≤ place) ⊎ T

-- a watcher of y belongs to a clause that has the blocker and, where the watcher says so, no literals but y
-- and the blocker
pub record IsWatcher (clauses : List Clause) (y : ℤ) (w : Watch) : Type 0 where
  pub held : w.clause < length clauses
  pub inside : Contains (clause_at clauses w.clause) w.blocker
  pub only : w.binary ≡ true → IsBinary y w.blocker (clause_at clauses w.clause)

-- each clause has the literals that it watches, and a watcher at each of these
pub record AreWatched (clauses : List Clause) (variables : ℕ) (lists : List (List Watch))
    (pairs : List Pair) : Type 0 where
  pub literals : AreClausesOf variables clauses
  pub lists_length : length lists ≡ variables * 2 + 2
  pub pairs_length : length pairs ≡ length clauses
  pub watchers : (y : ℤ) (k : ℕ) → k < length (list_at lists y)
      → IsWatcher clauses y (watch_at (list_at lists y) k)
  pub inside : (j : ℕ) (l : ℤ) → j < length clauses → IsOneOf (pair_at pairs j) l
      → Contains (clause_at clauses j) l
  pub watched : (j : ℕ) (l : ℤ) → j < length clauses → IsOneOf (pair_at pairs j) l
      → HasWatcher (list_at lists l) 0 j ⊥

-- each clause is kept below the start s
abbrev pub AreKeptAt : List Clause → List ℤ → List Pair → ℕ → Type 0
AreKeptAt clauses trail pairs s = AreKept (IsTrueBelow trail s) (IsTrueBelow trail s) clauses pairs

-- each clause is kept below each open level, whatever comes after
pub record IsWatchedBelow (clauses : List Clause) (t : TrailValue) (w : WatchesValue) : Type 0 where
  pub formed : AreWatched clauses t.variables w.lists w.pairs
  pub low : All (λ s. s ≤ length t.literals) t.starts
  pub below : All (AreKeptAt clauses t.literals w.pairs) t.starts

-- each clause is kept below each open level, and as far as the entries have been handled
pub record IsWatching (clauses : List Clause) (t : TrailValue) (w : WatchesValue) : Type 0 where
  pub base : IsWatchedBelow clauses t w
  pub within : w.handled ≤ length t.literals
  pub kept : AreKept (Holds t.literals) (IsTrueBelow t.literals w.handled) clauses w.pairs

-- `IsWatching` while the next entry, by which x is false, is handled: each clause that watches x has a true
-- literal, or a watcher from `at` on
pub record IsHandling (clauses : List Clause) (t : TrailValue) (w : WatchesValue) (x : ℤ)
    (at : ℕ) : Type 0 where
  pub watching : IsWatching clauses t w
  pub low : w.handled < length t.literals
  pub is : literal_at t.literals w.handled ≡ neg_ℤ x
  pub pending : (j : ℕ) → j < length clauses → IsOneOf (pair_at w.pairs j) x
      → HasWatcher (list_at w.lists x) at j (HasTrue (Holds t.literals) (clause_at clauses j))
