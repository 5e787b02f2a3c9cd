use Rattle.std.proofs.Common.{◌≡◌, ◌∙◌, ap, subst, sym, neg_ℤ, Some, [], ◌∷◌, ◌++◌}
use Rattle.cdcl_core.specs.Placed.{TrailValue, last_start}
use Rattle.cdcl_core.specs.Trail.{literal_at}
use Rattle.cdcl_core.proofs.Jumping.{jump_done}
use Rattle.cdcl_core.specs.Explained.{Holds}
use Rattle.cdcl_core.specs.Settled.{IsOpen}
use Rattle.cdcl_core.proofs.WatchJump.{jump_watching, own_open}
use Rattle.cdcl_core.proofs.jump.jump.Goals as goal

pub returns-clause-running : goal.returns-clause-running
returns-clause-running c =
    let own : c.negated-own.result ≡ neg_ℤ (literal_at c.args.trail.now.literals c.args.place) = c.negated-own.ensures ∙ ap neg_ℤ c.literal.ensures in
    jump_done c.args.clauses.now.list c.push_reserved.new.self.list c.args.trail.now c.push_implied.new.self (last_start c.args.trail.now) c.args.clause.now _ c.negated-own.result c.args.place
    c.jump_target-level.result.level c.len-reason.result
    c.consistent.ensures.consistent c.requires.running c.requires.learned own
    c.jump_target-level.ensures.jump c.push_reserved.ensures c.len-reason.ensures
    (c.push_implied.ensures ∙ ap (λ (t : TrailValue). record t { literals = t.literals ++ c.negated-own.result ∷ []; reasons = t.reasons ++ Some c.len-reason.result ∷ [] }) c.close.ensures)

pub returns-clause-watching : goal.returns-clause-watching
returns-clause-watching c =
    let own : c.negated-own.result ≡ neg_ℤ (literal_at c.args.trail.now.literals c.args.place) = c.negated-own.ensures ∙ ap neg_ℤ c.literal.ensures in
    jump_watching c.args.clauses.now.list c.push_reserved.new.self.list c.args.trail.now c.push_implied.new.self c.args.watches.now c.add.new.self c.set_handled.new.self (last_start c.args.trail.now)
    c.args.clause.now _ c.negated-own.result c.args.place
    c.jump_target-level.result.level c.len-reason.result c.start-start.result c.jump_target-level.result.other c.is_binary-binary.result
    c.consistent.ensures.consistent c.requires.running c.requires.watched c.requires.learned own c.jump_target-level.ensures.jump.within
    c.jump_target-level.ensures.pair
    c.requires.literals c.is_binary-binary.ensures c.push_reserved.ensures c.len-reason.ensures c.in_ok-add.ensures.ok c.start-start.ensures c.set_handled.ensures
    (c.push_implied.ensures ∙ ap (λ (t : TrailValue). record t { literals = t.literals ++ c.negated-own.result ∷ []; reasons = t.reasons ++ Some c.len-reason.result ∷ [] }) c.close.ensures)

pub push_implied-requires-clause-open : goal.push_implied-requires-clause-open
push_implied-requires-clause-open c =
    let own : c.negated-own.result ≡ neg_ℤ (literal_at c.args.trail.now.literals c.args.place) = c.negated-own.ensures ∙ ap neg_ℤ c.literal.ensures in
    subst (λ (t : TrailValue). IsOpen (Holds t.literals) c.negated-own.result) (sym c.close.ensures)
    (own_open c.args.trail.now c.args.clause.now _ c.negated-own.result c.args.place c.jump_target-level.result.level c.consistent.ensures.consistent c.requires.running.levels c.requires.learned own
    c.jump_target-level.ensures.jump.within)
