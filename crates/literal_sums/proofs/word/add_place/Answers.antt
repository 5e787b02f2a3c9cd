use Rattle.literal_sums.proofs.Taking.{sum_step}
use Rattle.literal_sums.proofs.word.add_place.Goals as goal

pub loop-i-preserved : goal.loop-i-preserved
loop-i-preserved c = sum_step _ _ _ _ _ _ c.loop-i.invariant c.in_ok-sum.ensures.grows c.in_ok-sum.ensures.ok
