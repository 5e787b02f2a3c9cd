use Rattle.std.proofs.Common.{arith}
use Rattle.lane_nets.proofs.WideWords.{wide_inputs_more}
use Rattle.lane_nets.proofs.wide_blocks.set_wide_inputs.Goals as goal

pub loop-s-preserved : goal.loop-s-preserved
loop-s-preserved c =
    wide_inputs_more c.args.patterns.now.vectors c.loop-s.wides c.row.result.now c.wide_at.result c.args.q c.loop-s.s (omega (arith, c.requires.room)) c.row.ensures.bits c.wide_at.ensures
    c.loop-s.invariant
