use Rattle.std.proofs.Common.{subst, arith}
use Rattle.cdcl_core.specs.Started.{IsStarted}
use Rattle.cdcl_core.proofs.Propagating.{extended_same, extended_trans}
use Rattle.cdcl_core.proofs.Starting.{starting_none, starting_done}
use Rattle.cdcl_core.proofs.first_watches.watch_all.Goals as goal

pub loop-place-init : goal.loop-place-init
loop-place-init c = record {
  starting = starting_none c.args.clauses.now.list c.args.trail.now c.args.watches.now c.requires.starts c.requires.watches;
  extended = extended_same c.args.clauses.now.list c.args.trail.now;
}

pub loop-place-preserved : goal.loop-place-preserved
loop-place-preserved c = record {
  starting = subst (IsStarted c.args.clauses.now.list c.loop-place.place c.watch_clause.new.trail c.watch_clause.new.watches) c.if-not-branch.false c.in_ok-watch_clause.ensures.started;
  extended = extended_trans c.args.clauses.now.list c.args.trail.now c.loop-place.trail c.watch_clause.new.trail c.loop-place.invariant.extended c.in_ok-watch_clause.ensures.extended;
}

pub returns-clause-found : goal.returns-clause-found
returns-clause-found c = starting_done c.args.clauses.now.list c.loop-place.place c.loop-place.trail c.loop-place.watches c.loop-place.invariant.starting (omega arith)
