use Rattle.std.proofs.Common.{get_or, sym, ◌∙◌}
use Rattle.lane_nets.specs.Wide.{lane_words}
use Rattle.lane_nets.proofs.LaneErrors.{signed_lanes}
use Rattle.lane_nets.proofs.WideWords.{lane_words-length}
use Rattle.lane_nets.proofs.wide_lanes.signed_apart_wide.Goals as goal

pub returns : goal.returns
returns c = λ j b lane low.
    signed_lanes c.args.level (get_or c.apart_wide.result j 0) b (lane_words c.args.exact.now j) (lane_words c.args.approx.now j) (lane_words c.set_turned_wide.new.turned j)
    (lane_words c.set_turned_wide-2.new.turned j) (lane_words-length c.args.exact.now j ∙ c.requires.same ∙ sym (lane_words-length c.args.approx.now j)) (c.set_turned_wide.ensures j b lane low)
    (c.set_turned_wide-2.ensures j b lane low) (c.apart_wide.ensures j b lane low)
