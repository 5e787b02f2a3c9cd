use Rattle.std.proofs.Common.{get_or, arith, ap}
use Rattle.lane_nets.proofs.GraphWords.{literals_more}
use Rattle.lane_nets.proofs.graph_blocks.set_literals.Goals as goal

pub loop-i-preserved : goal.loop-i-preserved
loop-i-preserved c =
    literals_more c.args.net.now.outputs c.args.literals.now c.args.wides.now c.loop-i.outputs c.loop-i.i _ c.literal_wide.result
    (omega (arith, c.loop-i-test.true, c.outputs-i-end.ensures.value, c.requires.room, c.loop-i.auto.outputs)) (ap (λ s. get_or c.args.literals.now s 0) c.output.ensures.value)
    c.literal_wide.ensures c.loop-i.invariant
