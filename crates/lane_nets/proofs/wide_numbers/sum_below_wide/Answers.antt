use Rattle.std.proofs.Common.{get_or, refl}
use Rattle.lane_nets.specs.Words.{word_bit}
use Rattle.lane_nets.specs.Numbers.{wide_number}
use Rattle.lane_nets.proofs.WideErrors.{and_lane, wide_start}
use Rattle.lane_nets.proofs.WideSums.{sum_more, sum_all}
use Rattle.lane_nets.proofs.wide_numbers.sum_below_wide.Goals as goal

pub loop-i-init : goal.loop-i-init
loop-i-init c = λ j b lane low.
    wide_start (wide_number c.args.first.now j b) (wide_number c.args.high.now j b) (wide_number c.args.second.now j b) _ _ b
    (c.no_comparison-so_far.ensures.carry j lane) (c.no_comparison-so_far.ensures.above j lane)

pub loop-i-preserved : goal.loop-i-preserved
loop-i-preserved c = λ j b lane low.
    sum_more c.args.first.now c.args.second.now c.args.high.now c.loop-i.i j b (get_or c.loop-i.so_far.carry j 0) (get_or c.loop-i.so_far.above j 0) _ c.requires.first c.requires.second
    (c.loop-i.invariant j b lane low) (get_or c.compare_sum-so_far.result.carry j 0) (get_or c.compare_sum-so_far.result.above j 0) c.loop-i-test.true
    (c.compare_sum-so_far.ensures j b lane low)

pub returns : goal.returns
returns c = λ j b lane low.
    sum_all c.args.first.now c.args.second.now c.args.high.now c.loop-i.i j b (get_or c.loop-i.so_far.carry j 0) (get_or c.loop-i.so_far.above j 0) _ c.requires.first c.requires.second
    (c.loop-i.invariant j b lane low) (word_bit (get_or c.and_wide.result j 0) b) (and_lane _ _ _ b _ _ (c.and_wide.ensures j lane) refl (c.not_wide.ensures j b lane low)) c.loop-i-test.false
