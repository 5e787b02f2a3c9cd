use Rattle.std.proofs.Common.{subst, ◌+◌}
use Rattle.std.specs.Prelude.{MatchOption}
use Rattle.cdcl_core.specs.Propagation.{IsConflict}
use Rattle.cdcl_core.specs.Searched.{IsModelTrail}
use Rattle.cdcl_core.proofs.Searching.{search_learned, search_moved, search_ended}
use Rattle.cdcl_core.proofs.search_turns.take_turn.Goals as goal

pub returns-clause-shown : goal.returns-clause-shown
returns-clause-shown c f merged k h =
    search_moved f merged (k + 1) c.learn_from.new.search c.follow.new.search
    (search_learned f merged k c.find_conflict.new.search c.learn_from.new.search (search_moved f merged k c.args.search.now c.find_conflict.new.search h c.in_ok-found.ensures.moved)
    c.in_ok-levels.ensures.searching c.in_ok-levels.ensures.variables c.in_ok-levels.ensures.logged)
    c.in_ok-follow.ensures.moved

pub returns-in_default-clause-shown : goal.returns-in_default-clause-shown
returns-in_default-clause-shown c f merged k h = (
  search_moved f merged k c.args.search.now c.find_conflict.new.search h c.in_ok-found.ensures.moved,
  subst (λ found. MatchOption found (IsModelTrail c.find_conflict.new.search.clauses.list c.find_conflict.new.search.trail)
      (IsConflict c.find_conflict.new.search.clauses.list c.find_conflict.new.search.trail)) c.in_default.is c.in_ok-found.ensures.found,
)

pub returns-then-levels-eq0-clause-shown : goal.returns-then-levels-eq0-clause-shown
returns-then-levels-eq0-clause-shown c f merged k h limit low =
    search_ended f merged limit k c.find_conflict.new.search c.log_refutation.new.search.log.items
    (search_moved f merged k c.args.search.now c.find_conflict.new.search h c.in_ok-found.ensures.moved) low c.in_ok-log_refutation.ensures.ended
