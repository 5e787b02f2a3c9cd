use Rattle.semantics.specs.Error.{number_of}
use Rattle.lane_nets.specs.Lanes.{lane_at}
use Rattle.lane_nets.proofs.Comparing.{compared_both}
use Rattle.lane_nets.proofs.lanes.apart_word.Goals as goal

pub returns : goal.returns
returns c =
    λ b low. compared_both (number_of (lane_at c.args.exact.now b)) (number_of (lane_at c.args.approx.now b)) c.args.level c.above_word.result c.above_word-2.result b
    (c.above_word.ensures b low) (c.above_word-2.ensures b low)
