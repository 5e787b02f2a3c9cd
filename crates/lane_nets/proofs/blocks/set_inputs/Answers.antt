use Rattle.std.proofs.Common.{arith}
use Rattle.lane_nets.proofs.RowBits.{inputs_more}
use Rattle.lane_nets.proofs.blocks.set_inputs.Goals as goal

pub loop-s-preserved : goal.loop-s-preserved
loop-s-preserved c =
    inputs_more c.args.patterns.now.vectors c.loop-s.words c.row.result.now c.args.k c.loop-s.s (omega (arith, c.requires.room)) c.row.ensures.bits c.loop-s.invariant
