use Rattle.std.proofs.Common.{get_or, refl, arith}
use Rattle.semantics.specs.Error.{number_of}
use Rattle.lane_nets.specs.Words.{word_bit}
use Rattle.lane_nets.specs.Lanes.{lane_at}
use Rattle.lane_nets.specs.Wide.{lane_words}
use Rattle.lane_nets.proofs.WideErrors.{and_lane, wide_start, wide_more, wide_all, wide_none_above}
use Rattle.lane_nets.proofs.wide_lanes.above_wide.Goals as goal
use Rattle.lane_nets.proofs.wide_lanes.above_wide.Goals.{then-rest-eq0, else-rest-eq0}

pub loop-i-init : goal.loop-i-init
loop-i-init c = λ j b lane low.
    wide_start (number_of (lane_at (lane_words c.args.low.now j) b)) (number_of (lane_at (lane_words c.args.high.now j) b)) c.args.level _ _ b
    (c.no_comparison-so_far.ensures.carry j lane) (c.no_comparison-so_far.ensures.above j lane)

pub loop-i-preserved : goal.loop-i-preserved
loop-i-preserved c = λ j b lane low.
    wide_more c.args.low.now c.args.high.now c.loop-i.i j b c.loop-i.rest (get_or c.loop-i.so_far.carry j 0) (get_or c.loop-i.so_far.above j 0) _ c.requires (c.loop-i.invariant j b lane low) _ _
    (get_or c.compare_wide-so_far.result.carry j 0) (get_or c.compare_wide-so_far.result.above j 0) c.loop-i-test.true refl refl (c.compare_wide-so_far.ensures j b lane low)

pub returns : goal.returns
returns c = λ j b lane low. elim c.if-rest-eq0.branch [
  | then-rest-eq0 w ↦
      rw w.result-is
      (wide_all c.args.low.now c.args.high.now c.loop-i.i j b c.loop-i.rest (get_or c.loop-i.so_far.carry j 0) (get_or c.loop-i.so_far.above j 0) _ c.requires (c.loop-i.invariant j b lane low)
      (word_bit (get_or w.and_wide.result j 0) b) (and_lane _ _ _ b _ _ (w.and_wide.ensures j lane) refl (w.not_wide.ensures j b lane low)) c.loop-i-test.false w.if-rest-eq0.true)
  | else-rest-eq0 w ↦
      rw w.result-is
      (wide_none_above c.args.low.now c.args.high.now c.loop-i.i j b c.loop-i.rest (get_or c.loop-i.so_far.carry j 0) (get_or c.loop-i.so_far.above j 0) _ c.requires
      (c.loop-i.invariant j b lane low) _ (w.equal_words.ensures j lane) c.loop-i-test.false (omega (arith, w.if-rest-eq0.false)))
]
