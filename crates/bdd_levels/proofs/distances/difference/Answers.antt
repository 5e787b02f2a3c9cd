use Rattle.std.proofs.Common.{arith}
use Rattle.bdd_levels.proofs.Subtraction.{subtracting_more}
use Rattle.bdd_levels.proofs.distances.difference.Goals as goal

pub loop-place-preserved : goal.loop-place-preserved
loop-place-preserved c =
    subtracting_more _ _ _ _ _ _ _ _ _ _ _ _ _ c.loop-place.invariant (omega arith) c.requires.widths c.get.ensures c.get-in-loop-place.ensures c.in_ok-bit.ensures.is c.in_ok-push.ensures.ok
    c.in_ok-bit.ensures.within.0
    c.in_ok-bit.ensures.within.1 c.in_ok-bit.ensures.more c.in_ok-bit.ensures.begins
