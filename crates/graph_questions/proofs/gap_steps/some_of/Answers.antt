use Rattle.graph_questions.proofs.Gaps.{none_start, none_more, none_done}
use Rattle.graph_questions.proofs.gap_steps.some_of.Goals as goal

pub loop-literal-init : goal.loop-literal-init
loop-literal-init c = none_start _ _ _ c.constant-some.ensures

pub loop-literal-preserved : goal.loop-literal-preserved
loop-literal-preserved c = none_more _ _ _ _ _ _ _ c.loop-literal.invariant c.in_ok-some.ensures.grows c.in_ok-some.ensures.ok

pub returns-clause-some : goal.returns-clause-some
returns-clause-some c = none_done _ _ _ _ _ c.loop-literal-test.false c.loop-literal.invariant
