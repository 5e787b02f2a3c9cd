use Rattle.std.proofs.Common.{ap, length, subst}
use Rattle.std.specs.Prelude.{IfSome}
use Rattle.std.proofs.lemmas.Result.{IfOk-weaker}
use Rattle.semantics.specs.Net.{NetValue}
use Rattle.graph_questions.specs.Differences.{IsDifferenceOf}
use Rattle.graph_questions.specs.Levels.{question_of, IsChangeFor}
use Rattle.graph_questions.proofs.Differences.{over_changed}
use Rattle.graph_questions.proofs.goal.goal_literal.Goals as goal

pub returns-in_ok-differs-in-Some-clause-over : goal.returns-in_ok-differs-in-Some-clause-over
returns-in_ok-differs-in-Some-clause-over c =
    let q = question_of c.args.nets.now c.args.level.now in
    let made = subst (λ o. IfSome o (λ change. IsChangeFor q change.now)) c.in-Some.is c.requires.change in
    let different =
    subst (λ (N : NetValue). IsDifferenceOf c.difference.new.g c.in-Some.change.now N c.args.inputs.now c.in_ok-differs-in-Some.differs)
    c.approx.ensures.value c.in_ok-differs-in-Some.ensures.value in
    IfOk-weaker c.and.result _ _
    (λ l both. over_changed c.beyond_level.new.g c.difference.new.g c.and.new.self q c.in-Some.change.now c.args.inputs.now
    c.in_ok-over.over c.in_ok-differs-in-Some.differs l
    c.in_ok-differs-in-Some.ensures.grows c.and.ensures.grows c.requires.count (ap length c.approx.ensures.candidate.ports.inputs) made c.in_ok-over.ensures.over different both)
    c.and.ensures.ok
