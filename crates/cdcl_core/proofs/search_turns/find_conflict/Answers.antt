use Rattle.std.proofs.Common.{subst}
use Rattle.cdcl_core.specs.Searched.{IsSwept}
use Rattle.cdcl_core.proofs.Searching.{moved_again, moved_found}
use Rattle.cdcl_core.proofs.search_turns.find_conflict.Goals as goal

pub returns-in-Some-clause-searching : goal.returns-in-Some-clause-searching
returns-in-Some-clause-searching c = c.in_ok-swept.ensures.moved.searching

pub returns-in-Some-clause-watched : goal.returns-in-Some-clause-watched
returns-in-Some-clause-watched c =
    (subst (IsSwept c.swept_conflict.new.search.clauses.list c.swept_conflict.new.search.trail c.swept_conflict.new.search.watches) c.in-Some.is c.in_ok-swept.ensures.found).0

pub returns-in-Some-clause-found : goal.returns-in-Some-clause-found
returns-in-Some-clause-found c =
    (subst (IsSwept c.swept_conflict.new.search.clauses.list c.swept_conflict.new.search.trail c.swept_conflict.new.search.watches) c.in-Some.is c.in_ok-swept.ensures.found).1

pub next_conflict-requires-clause-searching : goal.next_conflict-requires-clause-searching
next_conflict-requires-clause-searching c = c.in_ok-swept.ensures.moved.searching

pub next_conflict-requires-clause-watching : goal.next_conflict-requires-clause-watching
next_conflict-requires-clause-watching c =
    subst (IsSwept c.swept_conflict.new.search.clauses.list c.swept_conflict.new.search.trail c.swept_conflict.new.search.watches) c.in_default.is c.in_ok-swept.ensures.found

pub returns-clause-moved : goal.returns-clause-moved
returns-clause-moved c =
    moved_again c.args.search.now c.swept_conflict.new.search
    (record c.swept_conflict.new.search { trail = c.next_conflict.new.trail; watches = c.next_conflict.new.watches; order = c.next_conflict.new.order })
    c.in_ok-swept.ensures.moved
    (moved_found c.swept_conflict.new.search c.next_conflict.new.trail c.next_conflict.new.watches c.next_conflict.new.order c.in_ok-swept.ensures.moved.searching c.in_ok-found.ensures.searching
    c.next_conflict.ensures.order)
