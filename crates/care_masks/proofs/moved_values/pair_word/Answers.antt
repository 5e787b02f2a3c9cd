use Rattle.std.proofs.Common.{ap, ◌∙◌}
use Rattle.lane_bits.specs.Rows.{turned}
use Rattle.lane_bits.proofs.Bits.{and_bit}
use Rattle.care_masks.proofs.moved_values.pair_word.Goals as goal

pub returns : goal.returns
returns c = λ b low. c.copy_word.ensures b low ∙ ap (turned c.args.flip) (and_bit c.args.first c.args.second b)
