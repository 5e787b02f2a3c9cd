use Rattle.std.proofs.Common.{rules}
use Rattle.lane_nets.proofs.WordBits.{not_bit}
use Rattle.care_masks.proofs.moved_values.copy_word.Goals as goal

pub returns-then-flip : goal.returns-then-flip
returns-then-flip c = λ b low. rw c.if-flip.true (not_bit c.args.word b (search rules) low)
