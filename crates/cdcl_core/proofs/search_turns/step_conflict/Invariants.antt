use Rattle.std.proofs.Common.{◌+◌, ◌-◌, length}
use Rattle.cdcl_core.specs.Searched.{IsSearching}
use Rattle.cdcl_core.specs.Watching.{IsWatching}
use Rattle.cdcl_core.proofs.search_turns.step_conflict.Given as goal

abbrev pub invariant-loop-conflict : goal.invariant-loop-conflict
invariant-loop-conflict l = record {
  searching : IsSearching l.clauses.list l.trail l.order;
  watching : IsWatching l.clauses.list l.trail l.watches;
}

abbrev pub decreases-loop-conflict : goal.decreases-loop-conflict
decreases-loop-conflict l = (l.trail.variables + 2) - length l.trail.literals
