use Rattle.std.proofs.Common.{arith}
use Rattle.case_tree.proofs.Behind.{front_more}
use Rattle.case_tree.proofs.front_lanes.set_front.Goals as goal

pub loop-s-preserved : goal.loop-s-preserved
loop-s-preserved c =
    front_more c.args.front.now c.loop-s.words c.loop-s.s c.splat.result _ c.loop-s-test.true (omega (arith, c.requires, c.loop-s.auto.words)) c.splat.ensures c.loop-s.invariant
