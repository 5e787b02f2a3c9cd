use Rattle.lane_nets.proofs.LaneErrors.{equal_more, equal_all}
use Rattle.lane_nets.proofs.lanes.unequal_word.Goals as goal

pub loop-i-preserved : goal.loop-i-preserved
loop-i-preserved c = λ b. equal_more c.args.exact.now c.args.approx.now c.loop-i.i c.loop-i.unequal b (c.loop-i.invariant b)

pub returns : goal.returns
returns c =
    λ b low none. equal_all c.args.exact.now c.args.approx.now b c.loop-i.i c.requires c.loop-i-test.false (c.loop-i.invariant b none)
