use Rattle.std.proofs.Common.{◌≡◌, get_or, ℤ, pos, to_z, of_z, w32, ap, sym, ◌∙◌, rules}
use Rattle.lrat_check.proofs.HintAnswers.{stops_last, stops_second}
use Rattle.lrat_check.proofs.hints.hint_gives.Goals as goal

pub returns-then-last-clause-value : goal.returns-then-last-clause-value
returns-then-last-clause-value c =
    let l : ℤ = get_or c.args.clause.now c.loop-literal.literal-index (pos 0) in
    let read : to_z w32 (of_z w32 l) ≡ l = search rules in
    stops_last c.args.set.now c.args.clause.now c.loop-literal.literal-index c.args.hint c.args.last c.loop-literal.found (to_z w32 (of_z w32 l)) c.loop-literal-test.true read
    (sym c.makes_false.ensures ∙ c.if-makes_false.false) c.if-last.true (c.loop-literal.invariant.1 c.if-last.true) c.loop-literal.invariant.0

pub returns-then-first-literal-clause-value : goal.returns-then-first-literal-clause-value
returns-then-first-literal-clause-value c =
    let l : ℤ = get_or c.args.clause.now c.loop-literal.literal-index (pos 0) in
    let read : to_z w32 (of_z w32 l) ≡ l = search rules in
    stops_second c.args.set.now c.args.clause.now c.loop-literal.literal-index c.args.hint c.args.last c.loop-literal.found c.in-Some.first (to_z w32 (of_z w32 l)) c.loop-literal-test.true read
    (sym c.makes_false.ensures ∙ c.if-makes_false.false) c.if-last.false c.in-Some.is (λ same. c.if-first-literal.true (ap (of_z w32) (same ∙ read))) c.loop-literal.invariant.0
