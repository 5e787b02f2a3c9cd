use Rattle.std.proofs.Common.{◌∙◌, sym}
use Rattle.lane_nets.proofs.WordBits.{ones_bit}
use Rattle.care_masks.proofs.moved_values.constant_word.Goals as goal

pub returns-then-value : goal.returns-then-value
returns-then-value c = λ b low. ones_bit b low ∙ sym c.if-value.true
