use Rattle.std.proofs.Common.{get_or, ap, sym, ◌∙◌, arith}
use Rattle.semantics.specs.Error.{word_count}
use Rattle.lane_nets.specs.Wide.{lane_words}
use Rattle.lane_nets.proofs.LaneErrors.{joined_none, joined_all}
use Rattle.lane_nets.proofs.WideWords.{lane_words-length}
use Rattle.lane_nets.proofs.WideErrors.{wide_joined}
use Rattle.lane_nets.proofs.wide_lanes.over_wide.Goals as goal

pub loop-word-init : goal.loop-word-init
loop-word-init c = λ j b lane low. rw (c.equal_words-over.ensures j lane) (joined_none c.args.metric c.args.level b (lane_words c.args.exact.now j) (lane_words c.args.approx.now j))

pub loop-word-preserved : goal.loop-word-preserved
loop-word-preserved c =
    let place = c.word_place-first in
    λ j b lane low. wide_joined c.args.metric c.args.level (get_or c.loop-word.over j 0) (get_or c.over_one_wide-here.result j 0) (get_or c.or_wide-over.result j 0) j b c.loop-word.word
    place.result.0 place.result.1 c.args.exact.now c.args.approx.now c.requires.same place.ensures.first place.ensures.size (c.or_wide-over.ensures j lane)
    (c.over_one_wide-here.ensures j b lane low) (c.loop-word.invariant j b lane low)

pub returns : goal.returns
returns c = λ j b lane low.
    joined_all c.args.metric c.args.level (get_or c.loop-word.over j 0) b c.loop-word.word (lane_words c.args.exact.now j) (lane_words c.args.approx.now j)
    ((omega (arith, c.word_count-word-end.ensures, c.loop-word-test.false)) ∙ ap (word_count c.args.metric) (sym (lane_words-length c.args.exact.now j))) (c.loop-word.invariant j b lane low)
