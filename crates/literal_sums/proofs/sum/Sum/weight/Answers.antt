use Rattle.literal_sums.proofs.Weighing.{weight_found, weight_passed, weight_missing}
use Rattle.literal_sums.proofs.sum.Sum.weight.Goals as goal

pub returns-then-term-literal : goal.returns-then-term-literal
returns-then-term-literal c = weight_found _ _ _ _ c.loop-term-test.true c.loop-term.invariant c.if-term-literal.true

pub loop-term-preserved : goal.loop-term-preserved
loop-term-preserved c = weight_passed _ _ _ _ c.loop-term-test.true c.loop-term.invariant c.if-term-literal.false

pub returns : goal.returns
returns c = weight_missing _ _ _ _ c.loop-term-test.false c.loop-term.invariant
