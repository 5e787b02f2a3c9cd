use Rattle.std.proofs.Common.{sym, ◌∙◌}
use Rattle.lane_nets.proofs.WordBits.{ones_bit}
use Rattle.lane_nets.proofs.wide_lanes.bit_word.Goals as goal

pub returns-then-one : goal.returns-then-one
returns-then-one c = λ b low. ones_bit b low ∙ sym c.if-one.true
