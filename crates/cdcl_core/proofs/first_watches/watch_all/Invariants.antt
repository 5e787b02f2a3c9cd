use Rattle.cdcl_core.specs.Propagation.{IsExtended}
use Rattle.cdcl_core.specs.Started.{IsStarting}
use Rattle.cdcl_core.proofs.first_watches.watch_all.Given as goal

abbrev pub invariant-loop-place : goal.invariant-loop-place
invariant-loop-place l = record {
  starting : IsStarting l.clauses.list l.place l.trail l.watches;
  extended : IsExtended l.clauses.list l.initial.trail l.trail;
}
