use Rattle.std.proofs.Common.{◌≡◌, List}
use Rattle.proof_semantics.specs.Formula.{Formula}
use Rattle.proof_semantics.specs.Logs.{LogItem}
use Rattle.cdcl_core.specs.Searched.{IsSearch, IsSearching}
use Rattle.cdcl_core.specs.Watching.{IsWatching}
use Rattle.cdcl_core.proofs.solve.take_turns.Given as goal

abbrev pub invariant-loop-conflicts : goal.invariant-loop-conflicts
invariant-loop-conflicts g l = record {
  searching : IsSearching l.search.clauses.list l.search.trail l.search.order;
  watching : IsWatching l.search.clauses.list l.search.trail l.search.watches;
  variables : l.search.trail.variables ≡ l.fn.search.trail.variables;
  search : (f : Formula) (merged : List LogItem) → IsSearch f merged 0 l.fn.search → IsSearch f merged l.conflicts l.search;
}
