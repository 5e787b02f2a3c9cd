use Rattle.std.proofs.Common.{◌∙◌, refl, subst}
use Rattle.std.specs.Prelude.{MatchOption}
use Rattle.cdcl_core.specs.Propagation.{IsConflict}
use Rattle.cdcl_core.specs.Watching.{IsWatching}
use Rattle.cdcl_core.proofs.Searching.{search_found, search_ended, searching_extended}
use Rattle.cdcl_core.proofs.solve.search_from.Goals as goal

pub returns-in-Some-clause-shown : goal.returns-in-Some-clause-shown
returns-in-Some-clause-shown g c f merged h =
    search_ended f merged c.args.limit 0 (record c.args.search.now { trail = c.watch_all.new.trail; watches = c.watch_all.new.watches }) c.log_refutation.new.search.log.items
    (search_found f merged 0 c.args.search.now c.watch_all.new.trail c.watch_all.new.watches c.args.search.now.order h
    (searching_extended c.args.search.now.clauses.list c.args.search.now.trail c.watch_all.new.trail c.args.search.now.order c.requires.searching c.in_ok-at_once.ensures.extended) refl)
    c.requires.limit c.in_ok-log_refutation.ensures.ended

pub watch_all-requires-clause-literals : goal.watch_all-requires-clause-literals
watch_all-requires-clause-literals g c = c.requires.searching.literals

pub log_refutation-requires-clause-searching : goal.log_refutation-requires-clause-searching
log_refutation-requires-clause-searching g c =
    searching_extended c.args.search.now.clauses.list c.args.search.now.trail c.watch_all.new.trail c.args.search.now.order c.requires.searching c.in_ok-at_once.ensures.extended

pub log_refutation-requires-clause-conflict : goal.log_refutation-requires-clause-conflict
log_refutation-requires-clause-conflict g c =
    subst (λ found. MatchOption found (IsWatching c.args.search.now.clauses.list c.watch_all.new.trail c.watch_all.new.watches) (IsConflict c.args.search.now.clauses.list c.watch_all.new.trail))
    c.in-Some.is c.in_ok-at_once.ensures.found

pub log_refutation-requires-clause-no_level : goal.log_refutation-requires-clause-no_level
log_refutation-requires-clause-no_level g c = c.in_ok-at_once.ensures.extended.starts ∙ c.requires.starts

pub take_turns-requires-clause-searching : goal.take_turns-requires-clause-searching
take_turns-requires-clause-searching g c =
    searching_extended c.args.search.now.clauses.list c.args.search.now.trail c.watch_all.new.trail c.args.search.now.order c.requires.searching c.in_ok-at_once.ensures.extended

pub take_turns-requires-clause-watching : goal.take_turns-requires-clause-watching
take_turns-requires-clause-watching g c =
    subst (λ found. MatchOption found (IsWatching c.args.search.now.clauses.list c.watch_all.new.trail c.watch_all.new.watches) (IsConflict c.args.search.now.clauses.list c.watch_all.new.trail))
    c.in_default.is c.in_ok-at_once.ensures.found
