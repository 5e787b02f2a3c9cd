-- What the loops of propagation keep.
use Rattle.std.specs.Prelude.{ℤ}
use Rattle.std.proofs.Common.{◌≡◌, ◌∙◌, ℕ, List}
use Rattle.proof_semantics.specs.Clauses.{Clause}
use Rattle.cdcl_core.specs.Placed.{TrailValue}
use Rattle.cdcl_core.specs.Propagation.{IsExtended}
use Rattle.cdcl_core.specs.Watches.{WatchesValue}
use Rattle.cdcl_core.specs.Watching.{IsWatching, IsHandling}
use Rattle.cdcl_core.proofs.Propagating.{extended_trans}

-- the watchers before `at` have been visited
pub record IsSoFar (clauses : List Clause) (old new : TrailValue) (was now : WatchesValue) (x : ℤ) (at : ℕ) : Type 0 where
  pub handling : IsHandling clauses new now x at
  pub extended : IsExtended clauses old new
  pub same_handled : now.handled ≡ was.handled

-- the entries so far have been handled
pub record IsHandledSoFar (clauses : List Clause) (old new : TrailValue) (w : WatchesValue) : Type 0 where
  pub watching : IsWatching clauses new w
  pub extended : IsExtended clauses old new

pub so_far_next : (clauses : List Clause) (old mid new : TrailValue) (was then now : WatchesValue) (x : ℤ) (at after : ℕ) → IsSoFar clauses old mid was then x at → IsHandling clauses new now x after
    → IsExtended clauses mid new → now.handled ≡ then.handled → IsSoFar clauses old new was now x after
so_far_next clauses old mid new was then now x at after h handling e same = record {
  handling = handling;
  extended = extended_trans clauses old mid new h.extended e;
  same_handled = same ∙ h.same_handled;
}
