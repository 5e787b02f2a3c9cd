use Rattle.std.proofs.Common.{ap, refl, arith}
use Rattle.cdcl_core.proofs.Searching.{searching_closed, moved_none}
use Rattle.cdcl_core.proofs.WatchJump.{restart_watching}
use Rattle.cdcl_core.proofs.jump.close_levels.Goals as goal

pub returns-clause-moved : goal.returns-clause-moved
returns-clause-moved c = record {
  searching = searching_closed c.args.search.now.clauses.list c.args.search.now.trail c.close.new.self c.args.search.now.order c.open_from.new.order 0 c.requires.searching c.open_from.ensures
      (omega arith) c.close.ensures;
  variables = ap (λ t. t.variables) c.close.ensures;
  clauses = refl;
  log = refl;
}

pub returns-clause-watching : goal.returns-clause-watching
returns-clause-watching c =
    restart_watching c.args.search.now.clauses.list c.args.search.now.trail c.close.new.self c.args.search.now.watches c.set_handled.new.self 0 c.start-start.result
    c.requires.searching.running c.requires.watching.base (omega arith) c.start-start.ensures c.set_handled.ensures c.close.ensures

pub returns-then-not-due-clause-moved : goal.returns-then-not-due-clause-moved
returns-then-not-due-clause-moved c = moved_none c.args.search.now c.requires.searching

pub returns-then-levels-eq0-clause-moved : goal.returns-then-levels-eq0-clause-moved
returns-then-levels-eq0-clause-moved c = moved_none c.args.search.now c.requires.searching

pub open_from-requires : goal.open_from-requires
open_from-requires c = c.requires.searching.variables
