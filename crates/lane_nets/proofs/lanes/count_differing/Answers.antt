use Rattle.std.proofs.Common.{arith}
use Rattle.lane_nets.proofs.Counting.{counting_none, counting_more, counting_all}
use Rattle.lane_nets.proofs.lanes.count_differing.Goals as goal

pub loop-j-init : goal.loop-j-init
loop-j-init c = λ b n low reached. counting_none c.args.reached.now c.args.differs b n low

pub loop-j-preserved : goal.loop-j-preserved
loop-j-preserved c = λ b n low reached.
    counting_more c.args.reached.now c.loop-j.reached c.args.differs c.loop-j.j c.loop-j.below b n (omega (arith, c.loop-j-test.true, c.loop-j.auto.reached)) c.loop-j-test.true reached
    (c.loop-j.invariant b n low reached)

pub returns : goal.returns
returns c = λ b n low reached. counting_all c.args.reached.now c.loop-j.reached c.args.differs c.loop-j.j c.loop-j.below b n (omega (arith, c.loop-j-test.false, c.loop-j.auto.reached))
    (c.loop-j.invariant b n low reached)
