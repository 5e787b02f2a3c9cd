use Rattle.literal_sums.proofs.Taking.{sum_step}
use Rattle.literal_sums.proofs.reduction.reduce.Goals as goal

pub loop-preserved : goal.loop-preserved
loop-preserved c = sum_step _ _ _ _ _ _ c.loop.invariant c.in_ok-go_through_node.ensures.grows c.in_ok-go_through_node.ensures.ok
