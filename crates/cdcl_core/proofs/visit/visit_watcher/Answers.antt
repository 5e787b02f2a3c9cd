use Rattle.std.proofs.Common.{refl, ap, sym, rules}
use Rattle.cdcl_core.specs.declared.watches.Watch.{Watch}
use Rattle.cdcl_core.specs.Watching.{IsWatcher}
use Rattle.cdcl_core.proofs.Visiting.{blocker_next, stale_at, binary_false, watcher_read, followed_visited, followed_extended}
use Rattle.cdcl_core.proofs.visit.visit_watcher.Goals as goal

pub returns-then-is_true-clause-visited : goal.returns-then-is_true-clause-visited
returns-then-is_true-clause-visited c = (
  blocker_next c.args.clauses.now.list c.args.trail.now c.args.watches.now c.args.x c.args.at c.get-watch.result c.requires.handling c.requires.at c.get-watch.ensures
      (c.is_true.ensures.0 c.if-is_true.true),
  refl,
)

pub returns-in-None-clause-visited : goal.returns-in-None-clause-visited
returns-in-None-clause-visited c =
    stale_at c.args.clauses.now.list c.args.trail.now c.args.watches.now c.remove.new.self c.args.x c.args.at c.pair.result c.get-watch.result.clause c.requires.handling c.requires.at
    (ap (λ (w : Watch). w.clause) (sym c.get-watch.ensures)) c.pair.ensures (c.partner.ensures.none (search rules)) c.remove.ensures

pub returns-then-watch-clause-visited : goal.returns-then-watch-clause-visited
returns-then-watch-clause-visited c =
    let v : Watch = c.get-watch.result in
    let ok : IsWatcher c.args.clauses.now.list c.args.x v
    = watcher_read c.args.clauses.now.list c.args.trail.now c.args.watches.now c.args.x c.args.at v c.requires.handling c.requires.at c.get-watch.ensures in
    followed_visited c.args.clauses.now.list c.args.trail.now c.follow.new.trail c.args.watches.now c.args.x c.args.at v.clause v.blocker c.requires.handling
    (ap (λ (w : Watch). w.clause) (sym c.get-watch.ensures)) ok.held ok.inside
    (binary_false c.args.clauses.now.list c.args.trail.now c.args.watches.now c.args.x c.args.at v c.requires.handling c.requires.at c.get-watch.ensures c.if-watch.true) c.follow.result
    c.follow.ensures

pub returns-then-watch-clause-extended : goal.returns-then-watch-clause-extended
returns-then-watch-clause-extended c =
    let v : Watch = c.get-watch.result in
    let ok : IsWatcher c.args.clauses.now.list c.args.x v
    = watcher_read c.args.clauses.now.list c.args.trail.now c.args.watches.now c.args.x c.args.at v c.requires.handling c.requires.at c.get-watch.ensures in
    followed_extended c.args.clauses.now.list c.args.trail.now c.follow.new.trail v.clause v.blocker ok.held ok.inside
    (binary_false c.args.clauses.now.list c.args.trail.now c.args.watches.now c.args.x c.args.at v c.requires.handling c.requires.at c.get-watch.ensures c.if-watch.true) c.follow.result
    c.follow.ensures
