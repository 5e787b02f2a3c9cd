use Rattle.std.specs.Prelude.{IfSome}
use Rattle.std.proofs.Common.{◌≡◌, ◌<◌, true, length, refl, sym, subst, ◌∙◌, rules}
use Rattle.proof_semantics.specs.Conflicts.{clause_at}
use Rattle.cdcl_core.specs.Visited.{IsOtherWatch, AreOthersFalse}
use Rattle.cdcl_core.proofs.Propagating.{clause_read}
use Rattle.cdcl_core.proofs.Visiting.{held_by, first_in, first_literal, twice_next, list_low, rewatched, moved_at, followed_extended, followed_visited}
use Rattle.cdcl_core.proofs.visit.visit_clause.Goals as goal

pub returns-then-is-clause-visited : goal.returns-then-is-clause-visited
returns-then-is-clause-visited c =
    let held = held_by c.args.clauses.now.list c.args.trail.now c.args.watches.now c.args.x c.args.at c.args.clause c.requires.handling c.requires.at c.requires.clause in (
      twice_next c.args.clauses.now.list c.args.trail.now c.args.watches.now c.args.x c.args.at c.args.clause c.args.first c.requires.handling held c.requires.clause c.requires.first
          (c.is.ensures.0 c.if-is.true),
      refl,
    )

pub is_true-requires : goal.is_true-requires
is_true-requires c = first_literal c.args.clauses.now.list c.args.trail.now c.args.watches.now c.args.x c.args.at c.args.clause c.args.first c.requires.handling c.requires.at c.requires.clause
    c.requires.first

pub set-requires-clause-literal : goal.set-requires-clause-literal
set-requires-clause-literal c = list_low c.args.watches.now.lists c.args.x c.args.at c.requires.at

pub returns-then-is_true-clause-visited : goal.returns-then-is_true-clause-visited
returns-then-is_true-clause-visited c =
    rewatched c.args.clauses.now.list c.args.trail.now c.args.watches.now c.set.new.self c.args.x c.args.at c.args.clause c.args.first c.requires.handling c.requires.at c.requires.clause
    (first_in c.args.clauses.now.list c.args.trail.now c.args.watches.now c.args.x c.args.at c.args.clause c.args.first c.requires.handling c.requires.at c.requires.clause c.requires.first)
    (c.is_true.ensures.0 c.if-is_true.true) (rw (sym c.long_watch.ensures) c.set.ensures)

pub follow-requires-clause-literal : goal.follow-requires-clause-literal
follow-requires-clause-literal c = first_literal c.args.clauses.now.list c.args.trail.now c.args.watches.now c.args.x c.args.at c.args.clause c.args.first c.requires.handling c.requires.at
    c.requires.clause c.requires.first

pub returns-in_ok-push-in-Some-clause-visited : goal.returns-in_ok-push-in-Some-clause-visited
returns-in_ok-push-in-Some-clause-visited c =
    let held : c.args.clause < length c.args.clauses.now.list
    = held_by c.args.clauses.now.list c.args.trail.now c.args.watches.now c.args.x c.args.at c.args.clause c.requires.handling c.requires.at c.requires.clause in
    let same : c.get.result.now ≡ clause_at c.args.clauses.now.list c.args.clause = clause_read c.args.clauses.now.list c.args.clause c.get.result.now c.get.result.now held c.get.ensures refl in
    let some : IsOtherWatch c.args.trail.now.literals c.get.result.now c.args.first c.in-Some.free.literal
    = subst (λ r. IfSome r (λ free. IsOtherWatch c.args.trail.now.literals c.get.result.now c.args.first free.literal)) c.in-Some.is c.find_watch.ensures.some in
    moved_at c.args.clauses.now.list c.args.trail.now c.args.watches.now c.push.new.self c.set_found.new.self c.remove.new.self c.args.x c.args.at c.args.clause c.args.first c.in-Some.free.literal
    c.requires.handling c.requires.at c.requires.clause c.requires.first
    (λ e. let yes : c.is.result ≡ true = c.is.ensures.1 e in let no = c.if-is.false in cc)
    (subst (λ C. IsOtherWatch c.args.trail.now.literals C c.args.first c.in-Some.free.literal) same some) (rw (sym c.long_watch-in-Some.ensures) c.in_ok-push-in-Some.ensures)
    (c.set_found.ensures ∙ c.set_pair.ensures) c.remove.ensures

pub returns-in-None-clause-extended : goal.returns-in-None-clause-extended
returns-in-None-clause-extended c =
    let held : c.args.clause < length c.args.clauses.now.list
    = held_by c.args.clauses.now.list c.args.trail.now c.args.watches.now c.args.x c.args.at c.args.clause c.requires.handling c.requires.at c.requires.clause in
    let same : c.get.result.now ≡ clause_at c.args.clauses.now.list c.args.clause = clause_read c.args.clauses.now.list c.args.clause c.get.result.now c.get.result.now held c.get.ensures refl in
    let none : AreOthersFalse c.args.trail.now.literals c.get.result.now c.args.first = c.find_watch.ensures.none (search rules) in
    followed_extended c.args.clauses.now.list c.args.trail.now c.follow.new.trail c.args.clause c.args.first held
    (first_in c.args.clauses.now.list c.args.trail.now c.args.watches.now c.args.x c.args.at c.args.clause c.args.first c.requires.handling c.requires.at c.requires.clause c.requires.first)
    (subst (λ C. AreOthersFalse c.args.trail.now.literals C c.args.first) same none) c.follow.result c.follow.ensures

pub returns-in-None-clause-visited : goal.returns-in-None-clause-visited
returns-in-None-clause-visited c =
    let held : c.args.clause < length c.args.clauses.now.list
    = held_by c.args.clauses.now.list c.args.trail.now c.args.watches.now c.args.x c.args.at c.args.clause c.requires.handling c.requires.at c.requires.clause in
    let same : c.get.result.now ≡ clause_at c.args.clauses.now.list c.args.clause = clause_read c.args.clauses.now.list c.args.clause c.get.result.now c.get.result.now held c.get.ensures refl in
    let none : AreOthersFalse c.args.trail.now.literals c.get.result.now c.args.first = c.find_watch.ensures.none (search rules) in
    followed_visited c.args.clauses.now.list c.args.trail.now c.follow.new.trail c.args.watches.now c.args.x c.args.at c.args.clause c.args.first c.requires.handling c.requires.clause held
    (first_in c.args.clauses.now.list c.args.trail.now c.args.watches.now c.args.x c.args.at c.args.clause c.args.first c.requires.handling c.requires.at c.requires.clause c.requires.first)
    (subst (λ C. AreOthersFalse c.args.trail.now.literals C c.args.first) same none) c.follow.result c.follow.ensures
