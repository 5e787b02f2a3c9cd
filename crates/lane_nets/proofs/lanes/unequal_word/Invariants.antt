use Rattle.std.proofs.Common.{◌≡◌, ℕ, ◌<◌, false, get_or}
use Rattle.lane_nets.specs.Words.{word_bit}
use Rattle.lane_nets.proofs.lanes.unequal_word.Given as goal

abbrev pub invariant-loop-i : goal.invariant-loop-i
invariant-loop-i l = (b : ℕ) → word_bit l.unequal b ≡ false → (j : ℕ) → j < l.i → word_bit (get_or l.exact j 0) b ≡ word_bit (get_or l.approx j 0) b
