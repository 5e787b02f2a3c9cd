use Rattle.std.proofs.Common.{◌+◌, subst, arith}
use Rattle.cdcl_core.specs.Visited.{IsVisited}
use Rattle.cdcl_core.proofs.Propagating.{extended_trans}
use Rattle.cdcl_core.proofs.WatchSteps.{handling_done}
use Rattle.cdcl_core.proofs.Handled.{so_far_next}
use Rattle.cdcl_core.proofs.propagation.handle.Goals as goal

pub along-preserved-in-Next : goal.along-preserved-in-Next
along-preserved-in-Next c =
    let v = subst (IsVisited c.args.clauses.now.list c.visit_watcher.new.trail c.along.watches c.visit_watcher.new.watches c.args.x c.along.at) c.in-Next.is c.in_ok-visit_watcher.ensures.visited in
    so_far_next c.args.clauses.now.list c.args.trail.now c.along.trail c.visit_watcher.new.trail c.args.watches.now c.along.watches c.visit_watcher.new.watches c.args.x c.along.at (c.along.at + 1)
    c.along.invariant v.0 c.in_ok-visit_watcher.ensures.extended c.in_ok-visit_watcher.ensures.handled

pub along-preserved : goal.along-preserved
along-preserved c =
    let v = subst (IsVisited c.args.clauses.now.list c.visit_watcher.new.trail c.along.watches c.visit_watcher.new.watches c.args.x c.along.at) c.in-Again.is c.in_ok-visit_watcher.ensures.visited in
    so_far_next c.args.clauses.now.list c.args.trail.now c.along.trail c.visit_watcher.new.trail c.args.watches.now c.along.watches c.visit_watcher.new.watches c.args.x c.along.at c.along.at
    c.along.invariant v.0 c.in_ok-visit_watcher.ensures.extended c.in_ok-visit_watcher.ensures.handled

pub returns-in-Conflict-clause-extended : goal.returns-in-Conflict-clause-extended
returns-in-Conflict-clause-extended c = extended_trans c.args.clauses.now.list c.args.trail.now c.along.trail c.visit_watcher.new.trail c.along.invariant.extended
    c.in_ok-visit_watcher.ensures.extended

pub returns-clause-found : goal.returns-clause-found
returns-clause-found c =
    handling_done c.args.clauses.now.list c.along.trail c.along.watches c.args.x c.along.at c.along.invariant.handling (omega arith)
