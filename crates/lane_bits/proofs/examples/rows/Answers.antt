use Rattle.std.proofs.Common.{refl}
use Rattle.lane_bits.specs.Rows.{row_bit}
use Rattle.lane_bits.proofs.examples.rows.Goals as goal

pub returns : goal.returns
unfolding row_bit
returns c = record { words = refl; lowest = refl; next = refl; second_word = refl; past_the_end = refl }
