use Rattle.std.proofs.Common.{arith}
use Rattle.lane_nets.proofs.LaneErrors.{joined_none, joined_more, joined_all}
use Rattle.lane_nets.proofs.lanes.over_word.Goals as goal

pub loop-word-init : goal.loop-word-init
loop-word-init c = λ b low. joined_none c.args.metric c.args.level b c.args.exact.now c.args.approx.now

pub loop-word-preserved : goal.loop-word-preserved
loop-word-preserved c =
    let place = c.word_place-first in
    λ b low. joined_more c.args.metric c.args.level c.loop-word.over c.over_by_kind-over.result b c.loop-word.word place.result.0 place.result.1 c.args.exact.now c.args.approx.now c.requires.same
    place.ensures.first place.ensures.size (c.over_by_kind-over.ensures b low) (c.loop-word.invariant b low)

pub returns : goal.returns
returns c =
    λ b low. joined_all c.args.metric c.args.level c.loop-word.over b c.loop-word.word c.args.exact.now c.args.approx.now
    (omega (arith, c.word_count-word-end.ensures, c.loop-word-test.false)) (c.loop-word.invariant b low)
