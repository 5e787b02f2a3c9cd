use Rattle.std.proofs.Common.{rules, arith}
use Rattle.lane_nets.proofs.Counting.{reached_more, reached_all, reached_none_more, reached_zeros}
use Rattle.lane_nets.proofs.lanes.differing_word.Goals as goal

pub returns-then-level-exact : goal.returns-then-level-exact
returns-then-level-exact c = λ b low. reached_none_more c.args.exact.now c.args.approx.now c.args.level b (omega (arith, c.if-level-exact.true))

pub loop-i-init : goal.loop-i-init
loop-i-init c = λ b low. reached_zeros c.fill.new.self _ b (c.fill.ensures.after (λ y is. is))

pub loop-i-preserved : goal.loop-i-preserved
loop-i-preserved c = λ b low.
    reached_more c.args.exact.now c.args.approx.now c.loop-i.reached c.count_differing.new.reached c.loop-i.i b c.loop-i-test.true c.requires.same low c.count_differing.ensures
    (c.loop-i.invariant b low)

pub returns : goal.returns
returns c = λ b low.
    reached_all c.args.exact.now c.args.approx.now c.loop-i.reached c.loop-i.i c.args.level b c.loop-i-test.false c.requires.same (search rules) (c.loop-i.invariant b low)
