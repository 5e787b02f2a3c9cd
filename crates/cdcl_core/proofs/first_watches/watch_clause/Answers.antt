use Rattle.std.specs.Prelude.{IfSome}
use Rattle.std.proofs.Common.{◌≡◌, false, refl, subst, sym, inl, inr, arith, rules}
use Rattle.std.specs.List.{Contains}
use Rattle.proof_semantics.specs.Conflicts.{clause_at}
use Rattle.cdcl_core.specs.Watched.{IsBinary}
use Rattle.cdcl_core.specs.Propagation.{IsExtended}
use Rattle.cdcl_core.specs.Visited.{IsOtherWatch, AreOthersFalse}
use Rattle.cdcl_core.proofs.Propagating.{clause_read, extended_same}
use Rattle.cdcl_core.proofs.Visiting.{all_false, implied_extended, holds_implied, never_binary}
use Rattle.cdcl_core.proofs.Starting.{starting_next, read_inside, list_low, literal_of}
use Rattle.cdcl_core.proofs.first_watches.watch_clause.Goals as goal

pub add-requires-clause-one : goal.add-requires-clause-one
add-requires-clause-one c =
    let same : c.get-clause.result.now ≡ clause_at c.args.clauses.now.list c.args.place
    = clause_read c.args.clauses.now.list c.args.place c.get-clause.result.now c.get-clause.result.now c.requires.place c.get-clause.ensures refl in
    let inside : Contains (clause_at c.args.clauses.now.list c.args.place) c.index-clause-0.result
    = read_inside (clause_at c.args.clauses.now.list c.args.place) c.get-clause.result.now c.index-clause-0.result same c.index-clause-0.is (omega arith) in
    list_low c.args.clauses.now.list c.args.place c.args.trail.now c.args.watches.now c.index-clause-0.result c.requires.starting
    (literal_of c.args.clauses.now.list c.args.place c.args.trail.now.variables c.index-clause-0.result c.requires.literals c.requires.place inside)

pub add-requires-clause-other : goal.add-requires-clause-other
add-requires-clause-other c =
    let same : c.get-clause.result.now ≡ clause_at c.args.clauses.now.list c.args.place
    = clause_read c.args.clauses.now.list c.args.place c.get-clause.result.now c.get-clause.result.now c.requires.place c.get-clause.ensures refl in
    let inside : Contains (clause_at c.args.clauses.now.list c.args.place) c.index-clause-0.result
    = read_inside (clause_at c.args.clauses.now.list c.args.place) c.get-clause.result.now c.index-clause-0.result same c.index-clause-0.is (omega arith) in
    let some : IsOtherWatch c.args.trail.now.literals c.get-clause.result.now c.index-clause-0.result c.in-Some.other
    = subst (λ r. IfSome r (IsOtherWatch c.args.trail.now.literals c.get-clause.result.now c.index-clause-0.result)) c.in-Some.is c.other_watch.ensures.some in
    let other : IsOtherWatch c.args.trail.now.literals (clause_at c.args.clauses.now.list c.args.place) c.index-clause-0.result c.in-Some.other
    = subst (λ C. IsOtherWatch c.args.trail.now.literals C c.index-clause-0.result c.in-Some.other) same some in
    list_low c.args.clauses.now.list c.args.place c.args.trail.now c.args.watches.now c.in-Some.other c.requires.starting
    (literal_of c.args.clauses.now.list c.args.place c.args.trail.now.variables c.in-Some.other c.requires.literals c.requires.place other.inside)

pub returns-in-Some-clause-started : goal.returns-in-Some-clause-started
returns-in-Some-clause-started c =
    let same : c.get-clause.result.now ≡ clause_at c.args.clauses.now.list c.args.place
    = clause_read c.args.clauses.now.list c.args.place c.get-clause.result.now c.get-clause.result.now c.requires.place c.get-clause.ensures refl in
    let inside : Contains (clause_at c.args.clauses.now.list c.args.place) c.index-clause-0.result
    = read_inside (clause_at c.args.clauses.now.list c.args.place) c.get-clause.result.now c.index-clause-0.result same c.index-clause-0.is (omega arith) in
    let some : IsOtherWatch c.args.trail.now.literals c.get-clause.result.now c.index-clause-0.result c.in-Some.other
    = subst (λ r. IfSome r (IsOtherWatch c.args.trail.now.literals c.get-clause.result.now c.index-clause-0.result)) c.in-Some.is c.other_watch.ensures.some in
    let other : IsOtherWatch c.args.trail.now.literals (clause_at c.args.clauses.now.list c.args.place) c.index-clause-0.result c.in-Some.other
    = subst (λ C. IsOtherWatch c.args.trail.now.literals C c.index-clause-0.result c.in-Some.other) same some in
    starting_next c.args.clauses.now.list c.args.place c.args.trail.now c.args.trail.now c.args.watches.now c.add.new.self c.index-clause-0.result c.in-Some.other c.is_binary-binary.result
    c.requires.starting c.requires.literals c.requires.place
    inside other.inside (extended_same c.args.clauses.now.list c.args.trail.now) (inl (λ e. other.differ (sym e)))
    (λ b. subst (IsBinary c.index-clause-0.result c.in-Some.other) same (c.is_binary-binary.ensures b)) c.in_ok-add.ensures.ok

pub returns-then-is_false-clause-started : goal.returns-then-is_false-clause-started
returns-then-is_false-clause-started c =
    let same : c.get-clause.result.now ≡ clause_at c.args.clauses.now.list c.args.place
    = clause_read c.args.clauses.now.list c.args.place c.get-clause.result.now c.get-clause.result.now c.requires.place c.get-clause.ensures refl in
    let none : AreOthersFalse c.args.trail.now.literals c.get-clause.result.now c.index-clause-0.result = c.other_watch.ensures.none (search rules) in
    record {
      within = c.requires.place;
      false_clause
          = all_false c.args.trail.now.literals (clause_at c.args.clauses.now.list c.args.place) c.get-clause.result.now c.index-clause-0.result same none (c.is_false.ensures.0 c.if-is_false.true);
    }

pub returns-then-is_true-clause-started : goal.returns-then-is_true-clause-started
returns-then-is_true-clause-started c =
    let same : c.get-clause.result.now ≡ clause_at c.args.clauses.now.list c.args.place
    = clause_read c.args.clauses.now.list c.args.place c.get-clause.result.now c.get-clause.result.now c.requires.place c.get-clause.ensures refl in
    let inside : Contains (clause_at c.args.clauses.now.list c.args.place) c.index-clause-0.result
    = read_inside (clause_at c.args.clauses.now.list c.args.place) c.get-clause.result.now c.index-clause-0.result same c.index-clause-0.is (omega arith) in
    starting_next c.args.clauses.now.list c.args.place c.args.trail.now c.args.trail.now c.args.watches.now c.add-2.new.self c.index-clause-0.result c.index-clause-0.result false c.requires.starting
    c.requires.literals c.requires.place
    inside inside (extended_same c.args.clauses.now.list c.args.trail.now) (inr (record { literal = c.index-clause-0.result; inside = inside; holds = c.is_true.ensures.0 c.if-is_true.true }))
    never_binary c.in_ok-add-2.ensures.ok

pub returns-clause-extended : goal.returns-clause-extended
returns-clause-extended c =
    let same : c.get-clause.result.now ≡ clause_at c.args.clauses.now.list c.args.place
    = clause_read c.args.clauses.now.list c.args.place c.get-clause.result.now c.get-clause.result.now c.requires.place c.get-clause.ensures refl in
    let inside : Contains (clause_at c.args.clauses.now.list c.args.place) c.index-clause-0.result
    = read_inside (clause_at c.args.clauses.now.list c.args.place) c.get-clause.result.now c.index-clause-0.result same c.index-clause-0.is (omega arith) in
    let none : AreOthersFalse c.args.trail.now.literals c.get-clause.result.now c.index-clause-0.result = c.other_watch.ensures.none (search rules) in
    implied_extended c.args.clauses.now.list c.args.trail.now c.push_implied.new.self c.get-clause.result.now c.args.place c.index-clause-0.result c.requires.place inside same none
    c.push_implied.ensures

pub returns-clause-started : goal.returns-clause-started
returns-clause-started c =
    let same : c.get-clause.result.now ≡ clause_at c.args.clauses.now.list c.args.place
    = clause_read c.args.clauses.now.list c.args.place c.get-clause.result.now c.get-clause.result.now c.requires.place c.get-clause.ensures refl in
    let inside : Contains (clause_at c.args.clauses.now.list c.args.place) c.index-clause-0.result
    = read_inside (clause_at c.args.clauses.now.list c.args.place) c.get-clause.result.now c.index-clause-0.result same c.index-clause-0.is (omega arith) in
    let none : AreOthersFalse c.args.trail.now.literals c.get-clause.result.now c.index-clause-0.result = c.other_watch.ensures.none (search rules) in
    let e : IsExtended c.args.clauses.now.list c.args.trail.now c.push_implied.new.self
    = implied_extended c.args.clauses.now.list c.args.trail.now c.push_implied.new.self c.get-clause.result.now c.args.place c.index-clause-0.result c.requires.place inside same none
    c.push_implied.ensures in
    starting_next c.args.clauses.now.list c.args.place c.args.trail.now c.push_implied.new.self c.args.watches.now c.add-2.new.self c.index-clause-0.result c.index-clause-0.result false
    c.requires.starting c.requires.literals c.requires.place
    inside inside e (inr (record {
      literal = c.index-clause-0.result;
      inside = inside;
      holds = holds_implied c.args.trail.now c.push_implied.new.self c.index-clause-0.result c.args.place c.push_implied.ensures;
    })) never_binary c.in_ok-add-2.ensures.ok
