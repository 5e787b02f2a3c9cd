use Rattle.std.proofs.Common.{subst, ◌∙◌}
use Rattle.cdcl_core.specs.Visited.{IsComplete}
use Rattle.cdcl_core.proofs.Searching.{searching_extended, searching_decided, searching_smaller, searching_ordered}
use Rattle.cdcl_core.proofs.Watching.{watching_decided}
use Rattle.cdcl_core.proofs.search.next_conflict.Goals as goal

pub returns-in-Some-clause-searching : goal.returns-in-Some-clause-searching
returns-in-Some-clause-searching c =
    searching_extended c.args.clauses.now.list c.loop-conflict.trail c.propagate.new.trail c.loop-conflict.order c.loop-conflict.invariant.searching c.in_ok-conflict.ensures.extended

pub returns-in-None-clause-searching : goal.returns-in-None-clause-searching
returns-in-None-clause-searching c =
    searching_ordered c.args.clauses.now.list c.propagate.new.trail c.loop-conflict.order c.decide.new.order c.decide.ensures.order
    (searching_extended c.args.clauses.now.list c.loop-conflict.trail c.propagate.new.trail c.loop-conflict.order c.loop-conflict.invariant.searching c.in_ok-conflict.ensures.extended)

pub loop-conflict-smaller : goal.loop-conflict-smaller
loop-conflict-smaller c =
    searching_smaller c.args.clauses.now.list c.loop-conflict.trail c.propagate.new.trail c.push_decision.new.self c.in-Some-decide.literal c.consistent.ensures.few c.in_ok-conflict.ensures.extended
    c.in_ok-push_decision-in-Some-decide.ensures.ok

pub loop-conflict-preserved : goal.loop-conflict-preserved
loop-conflict-preserved c =
    let complete = subst (IsComplete c.args.clauses.now.list c.propagate.new.trail c.propagate.new.watches) c.in_default.is c.in_ok-conflict.ensures.complete in
    record {
      searching =
          searching_ordered c.args.clauses.now.list c.push_decision.new.self c.loop-conflict.order c.decide.new.order c.decide.ensures.order
          (searching_decided c.args.clauses.now.list c.propagate.new.trail c.push_decision.new.self c.loop-conflict.order c.in-Some-decide.literal
          (searching_extended c.args.clauses.now.list c.loop-conflict.trail c.propagate.new.trail c.loop-conflict.order c.loop-conflict.invariant.searching c.in_ok-conflict.ensures.extended)
          complete.settled c.in_ok-push_decision-in-Some-decide.ensures.ok);
      watching = watching_decided c.args.clauses.now.list c.propagate.new.trail c.push_decision.new.self c.propagate.new.watches c.in-Some-decide.literal complete
          c.in_ok-push_decision-in-Some-decide.ensures.ok;
      order = c.decide.ensures.order ∙ c.loop-conflict.invariant.order;
    }
