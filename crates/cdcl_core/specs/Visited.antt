-- What a visit of a watcher does.
use Rattle.std.specs.Prelude.{◌≡◌, ◌⊎◌, ℕ, ◌+◌, Option, Some, None, [], ◌∷◌, ◌++◌, length, ℤ, neg_ℤ, List}
use Rattle.std.specs.Prelude.{All}
use Rattle.std.specs.List.{Contains}
use Rattle.proof_semantics.specs.Clauses.{Clause}
use Rattle.cdcl_core.specs.Settled.{IsSettled}
use Rattle.cdcl_core.specs.Explained.{Holds}
use Rattle.cdcl_core.specs.Placed.{TrailValue}
use Rattle.cdcl_core.specs.Watches.{WatchesValue, list_at}
use Rattle.cdcl_core.specs.Watching.{IsWatchedBelow, IsWatching, IsHandling}
use Rattle.cdcl_core.specs.Propagation.{IsConflict}
use Rattle.cdcl_core.specs.declared.watches.Pair.{Pair}
use Rattle.cdcl_core.specs.declared.visit.Visit.{Visit}
use Rattle.cdcl_core.specs.declared.visit.Visit.TheVariants.{Next, Again, Conflict}

-- x is one of the two literals, and first is the other
abbrev pub IsPartner : Pair → ℤ → ℤ → Type 0
IsPartner p x first = ((p.one ≡ x) × (p.other ≡ first)) ⊎ ((p.other ≡ x) × (p.one ≡ first))

-- l is a literal of C other than first, and is not false
pub record IsOtherWatch (trail : List ℤ) (C : Clause) (first l : ℤ) : Type 0 where
  pub inside : Contains C l
  pub not_false : Holds trail (neg_ℤ l) → ⊥
  pub differ : l ≡ first → ⊥

-- the literals of the clause other than first are false
abbrev pub AreOthersFalse : List ℤ → Clause → ℤ → Type 0
AreOthersFalse trail C first = All (λ a. (a ≡ first) ⊎ Holds trail (neg_ℤ a)) C

-- l follows by clause j, or is false
abbrev pub IsFollowed : TrailValue → TrailValue → ℕ → ℤ → Visit → Type 0
IsFollowed old new j l Next
    = new ≡ record old { literals = old.literals ++ l ∷ []; reasons = old.reasons ++ Some j ∷ [] }
IsFollowed old new j l Again = ⊥
IsFollowed old new j l (Conflict k) = (k ≡ j) × (new ≡ old) × Holds old.literals (neg_ℤ l)

-- the watcher stays, or was taken out, or the watcher's clause is false
abbrev pub IsVisited : List Clause → TrailValue → WatchesValue → WatchesValue → ℤ → ℕ → Visit → Type 0
IsVisited clauses t old new x at Next = IsHandling clauses t new x (at + 1)
    × (length (list_at new.lists x) ≡ length (list_at old.lists x))
IsVisited clauses t old new x at Again = IsHandling clauses t new x at
    × (length (list_at new.lists x) + 1 ≡ length (list_at old.lists x))
IsVisited clauses t old new x at (Conflict j) = IsWatchedBelow clauses t new × IsConflict clauses t j

-- the next entry was handled, or a clause is false
abbrev pub IsHandled : List Clause → TrailValue → WatchesValue → Option ℕ → Type 0
IsHandled clauses t w None = IsWatching clauses t (record w { handled = w.handled + 1 })
IsHandled clauses t w (Some j) = IsWatchedBelow clauses t w × IsConflict clauses t j

-- every entry was handled, and every clause is settled; or a clause is false
pub record IsPropagated (clauses : List Clause) (t : TrailValue) (w : WatchesValue) : Type 0 where
  pub watching : IsWatching clauses t w
  pub all : w.handled ≡ length t.literals
  pub settled : IsSettled (Holds t.literals) clauses

abbrev pub IsComplete : List Clause → TrailValue → WatchesValue → Option ℕ → Type 0
IsComplete clauses t w None = IsPropagated clauses t w
IsComplete clauses t w (Some j) = IsWatchedBelow clauses t w × IsConflict clauses t j
