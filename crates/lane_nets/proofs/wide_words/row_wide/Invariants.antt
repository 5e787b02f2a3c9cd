use Rattle.std.proofs.Common.{◌≡◌, ℕ, ◌<◌, ◌&&◌, drop, get_or}
use Rattle.semantics.specs.Value.{row_matches}
use Rattle.lane_nets.specs.Words.{word_bit, values_at}
use Rattle.lane_nets.specs.Wide.{lane_words}
use Rattle.lane_nets.proofs.wide_words.row_wide.Given as goal

abbrev pub invariant-loop-i : goal.invariant-loop-i
invariant-loop-i l =
    (j b : ℕ) → j < 8 → b < 64
    → (word_bit (get_or l.all j 0) b && row_matches (drop l.i l.marks) (drop l.i l.pins) (values_at (lane_words l.wides j) b))
    ≡ row_matches l.marks l.pins (values_at (lane_words l.wides j) b)
