use Rattle.std.proofs.Common.{subst}
use Rattle.std.specs.Prelude.{IfSome}
use Rattle.semantics.specs.Net.{NetValue}
use Rattle.graph_questions.specs.Levels.{question_of}
use Rattle.graph_questions.specs.Differences.{IsDifferenceOf}
use Rattle.graph_questions.specs.Gaps.{IsBeyond}
use Rattle.graph_questions.proofs.Following.{goal_is}
use Rattle.graph_questions.proofs.gap_question.gap_goal.Goals as goal

pub returns-clause-goal : goal.returns-clause-goal
returns-clause-goal c =
    let q = question_of c.args.nets.now c.args.level.now in
    let told = subst (λ o. IfSome o (IsBeyond c.beyond_literal.new.g c.args.places q.k c.args.sum.now)) c.in-Some.is c.in_ok-beyond.ensures.beyond in
    let different =
    subst (λ (N : NetValue). IsDifferenceOf c.difference.new.g c.args.change.now N c.args.inputs.now c.in_ok-differs.differs) c.approx.ensures.value c.in_ok-differs.ensures.value in
    goal_is c.args.g.now c.beyond_literal.new.g c.difference.new.g c.and.new.self q c.args.change.now c.args.places c.args.inputs.now c.args.sum.now
    c.in-Some.beyond c.in_ok-differs.differs c.in_ok-and.field-0
    c.beyond_literal.ensures.grows c.in_ok-differs.ensures.grows c.and.ensures.grows c.requires.few c.requires.count c.exact.ensures.candidate
    c.requires.change c.requires.between told different c.in_ok-and.ensures.ok
