use Rattle.lane_nets.proofs.LaneErrors.{signed_lanes}
use Rattle.lane_nets.proofs.lanes.signed_apart_word.Goals as goal

pub returns : goal.returns
returns c =
    λ b low. signed_lanes c.args.level c.apart_word.result b c.args.exact.now c.args.approx.now c.set_turned.new.turned c.set_turned-2.new.turned c.requires.same
    (c.set_turned.ensures b low) (c.set_turned-2.ensures b low) (c.apart_word.ensures b low)
