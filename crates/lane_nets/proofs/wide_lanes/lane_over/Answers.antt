use Rattle.lane_nets.specs.Wide.{lane_words}
use Rattle.lane_nets.proofs.WideErrors.{over_lanes}
use Rattle.lane_nets.proofs.wide_lanes.lane_over.Goals as goal

pub returns : goal.returns
returns c = λ b low.
    over_lanes c.args.kind c.args.level c.over_by_kind.result b (lane_words c.args.exact.now c.args.j) (lane_words c.args.approx.now c.args.j) c.set_lane_words.new.words c.set_lane_words-2.new.words
    c.set_lane_words.ensures c.set_lane_words-2.ensures (c.over_by_kind.ensures b low)
