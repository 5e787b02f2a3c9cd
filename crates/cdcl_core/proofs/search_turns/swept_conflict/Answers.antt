use Rattle.std.proofs.Common.{refl, subst}
use Rattle.cdcl_core.specs.Searched.{IsSwept}
use Rattle.cdcl_core.proofs.Searching.{moved_none, moved_again, moved_found}
use Rattle.cdcl_core.proofs.search_turns.swept_conflict.Goals as goal

pub loop-step-init : goal.loop-step-init
loop-step-init c = record { moved = moved_none c.args.search.now c.requires.searching; watching = c.requires.watching }

pub loop-step-preserved : goal.loop-step-preserved
loop-step-preserved c = record {
  moved =
      moved_again c.args.search.now (record c.loop-step.search { trail = c.step_conflict.new.trail; watches = c.step_conflict.new.watches }) c.close_levels.new.search
      (moved_again c.args.search.now c.loop-step.search (record c.loop-step.search { trail = c.step_conflict.new.trail; watches = c.step_conflict.new.watches }) c.loop-step.invariant.moved
      (moved_found c.loop-step.search c.step_conflict.new.trail c.step_conflict.new.watches c.loop-step.search.order c.loop-step.invariant.moved.searching c.in_ok-found.ensures.searching refl))
      c.close_levels.ensures.moved;
  watching = c.close_levels.ensures.watching;
}

pub returns-in-Some-clause-moved : goal.returns-in-Some-clause-moved
returns-in-Some-clause-moved c =
    moved_again c.args.search.now c.loop-step.search (record c.loop-step.search { trail = c.step_conflict.new.trail; watches = c.step_conflict.new.watches }) c.loop-step.invariant.moved
    (moved_found c.loop-step.search c.step_conflict.new.trail c.step_conflict.new.watches c.loop-step.search.order c.loop-step.invariant.moved.searching c.in_ok-found.ensures.searching refl)

pub returns-in-Some-clause-found : goal.returns-in-Some-clause-found
returns-in-Some-clause-found c =
    subst (IsSwept c.loop-step.search.clauses.list c.step_conflict.new.trail c.step_conflict.new.watches) c.in-Some.is c.in_ok-found.ensures.found

pub close_levels-requires-clause-searching : goal.close_levels-requires-clause-searching
close_levels-requires-clause-searching c = c.in_ok-found.ensures.searching

pub close_levels-requires-clause-watching : goal.close_levels-requires-clause-watching
close_levels-requires-clause-watching c =
    subst (IsSwept c.loop-step.search.clauses.list c.step_conflict.new.trail c.step_conflict.new.watches) c.in_default.is c.in_ok-found.ensures.found

pub step_conflict-requires-clause-searching : goal.step_conflict-requires-clause-searching
step_conflict-requires-clause-searching c = c.loop-step.invariant.moved.searching

pub is_ruled_out-ruled_out-requires : goal.is_ruled_out-ruled_out-requires
is_ruled_out-ruled_out-requires c = c.in_ok-found.ensures.searching.small
