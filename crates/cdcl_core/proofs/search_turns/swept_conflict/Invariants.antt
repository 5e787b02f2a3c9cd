use Rattle.cdcl_core.specs.Searched.{HasMoved}
use Rattle.cdcl_core.specs.Watching.{IsWatching}
use Rattle.cdcl_core.proofs.search_turns.swept_conflict.Given as goal

abbrev pub invariant-loop-step : goal.invariant-loop-step
invariant-loop-step l = record {
  moved : HasMoved l.fn.search l.search;
  watching : IsWatching l.search.clauses.list l.search.trail l.search.watches;
}
