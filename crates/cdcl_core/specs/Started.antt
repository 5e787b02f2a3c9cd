-- The watches of the clauses that a search begins with.
use Rattle.std.specs.Prelude.{◌≡◌, ℕ, ◌+◌, Bool, true, false, List, [], take}
use Rattle.proof_semantics.specs.Clauses.{Clause}
use Rattle.cdcl_core.specs.Placed.{TrailValue}
use Rattle.cdcl_core.specs.Watches.{WatchesValue}
use Rattle.cdcl_core.specs.Watching.{IsWatching}
use Rattle.cdcl_core.specs.Propagation.{IsConflict}

-- the first n clauses are watched, no entry has been handled, and nothing was decided
pub record IsStarting (clauses : List Clause) (n : ℕ) (t : TrailValue) (w : WatchesValue) : Type 0 where
  pub watching : IsWatching (take n clauses) t w
  pub handled : w.handled ≡ 0
  pub starts : t.starts ≡ []

-- the next clause is watched, or it is false
abbrev pub IsStarted : List Clause → ℕ → TrailValue → WatchesValue → Bool → Type 0
IsStarted clauses n t w true = IsStarting clauses (n + 1) t w
IsStarted clauses n t w false = IsConflict clauses t n
