use Rattle.std.proofs.Common.{refl}
use Rattle.literal_sums.specs.Sums.{sum_value, weight_in, word_value}
use Rattle.literal_sums.proofs.examples.sums.Goals as goal

pub returns : goal.returns
unfolding sum_value weight_in word_value
returns c = record { none = refl; one_less_one = refl; is_nothing = refl; turned_over = refl; two_halves = refl; weight = refl; no_weight = refl; word = refl }
