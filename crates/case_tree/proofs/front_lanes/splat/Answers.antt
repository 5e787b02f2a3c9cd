use Rattle.std.proofs.Common.{◌∙◌, sym}
use Rattle.lane_nets.proofs.WordBits.{ones_bit}
use Rattle.case_tree.proofs.front_lanes.splat.Goals as goal

pub returns-then-bit : goal.returns-then-bit
returns-then-bit c = λ b low. ones_bit b low ∙ sym c.if-bit.true
