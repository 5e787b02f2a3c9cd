use Rattle.std.proofs.Common.{List, ℕ, ◌-◌, subst}
use Rattle.std.specs.Prelude.{IfSome}
use Rattle.literal_sums.specs.Words.{IsWordOf}
use Rattle.graph_questions.specs.Gaps.{IsNothingWhere}
use Rattle.graph_questions.specs.GraphClauses.{IsAnsweredOf}
use Rattle.graph_questions.proofs.Gaps.{nothing_now, nothing_refuted}
use Rattle.graph_questions.proofs.gap_steps.is_nothing.Goals as goal

pub returns-then-is_nothing-clause-nothing : goal.returns-then-is_nothing-clause-nothing
returns-then-is_nothing-clause-nothing g c is =
    nothing_now c.reduce.new.g c.args.sum.now c.reduce.new.sum c.in_ok-reduce.ensures.ok (c.is_nothing.ensures.nothing c.if-is_nothing.true)

pub returns-in-Refuted-clause-nothing : goal.returns-in-Refuted-clause-nothing
returns-in-Refuted-clause-nothing g c is =
    let word = c.in-Some.word.items in
    let spelled = subst (λ some. IfSome some (λ word. IsWordOf c.word_of.new.g c.reduce.new.sum (32 - c.args.places) word.items)) c.in-Some.is c.in_ok-word.ensures.ok in
    let where_false = subst (λ (ls : List ℕ). IsNothingWhere c.some_of.new.g ls c.in_ok-some.some) c.deref.ensures.value c.in_ok-some.ensures.some in
    let never = subst (IsAnsweredOf c.some_of.new.g c.in_ok-some.some) c.in-Refuted.is c.in_ok-ask_solver.ensures in
    nothing_refuted c.reduce.new.g c.word_of.new.g c.some_of.new.g c.args.sum.now c.reduce.new.sum (32 - c.args.places) c.in_ok-some.some word
    c.in_ok-word.ensures.grows c.in_ok-some.ensures.grows c.in_ok-reduce.ensures.ok spelled where_false c.values.ensures never
