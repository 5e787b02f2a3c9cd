use Rattle.literal_sums.proofs.Counting.{taken_step, counted_none}
use Rattle.literal_sums.proofs.sum.Sum.take_all.Goals as goal

pub loop-term-init : goal.loop-term-init
loop-term-init c = counted_none c.args.terms.now _

pub loop-term-preserved : goal.loop-term-preserved
loop-term-preserved c = taken_step _ _ _ _ _ c.loop-term-test.true _ c.loop-term.invariant c.in_ok-take.ensures
