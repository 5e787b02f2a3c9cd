use Rattle.std.proofs.Common.{rules}
use Rattle.lane_nets.proofs.Comparing.{compare_more, compare_end}
use Rattle.lane_nets.proofs.lanes.above_word.Goals as goal

pub loop-i-preserved : goal.loop-i-preserved
loop-i-preserved c =
    λ b low. compare_more c.args.low.now c.args.high.now c.loop-i.i b c.loop-i.rest c.loop-i.so_far.carry c.loop-i.so_far.above _ c.requires (c.loop-i.invariant b low)
    c.compare_bit-so_far.result.carry c.compare_bit-so_far.result.above c.loop-i-test.true (c.compare_bit-so_far.ensures b low)

pub returns-then-rest-eq0 : goal.returns-then-rest-eq0
returns-then-rest-eq0 c =
    λ b low. compare_end c.args.low.now c.args.high.now c.loop-i.i b c.loop-i.rest c.loop-i.so_far.carry c.loop-i.so_far.above _ c.requires (c.loop-i.invariant b low)
    (search rules) low c.loop-i-test.false c.if-rest-eq0.true
