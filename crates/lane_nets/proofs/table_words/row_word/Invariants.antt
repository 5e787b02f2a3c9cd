use Rattle.std.proofs.Common.{◌≡◌, ℕ, ◌<◌, ◌&&◌, drop}
use Rattle.semantics.specs.Value.{row_matches}
use Rattle.lane_nets.specs.Words.{word_bit, values_at}
use Rattle.lane_nets.proofs.table_words.row_word.Given as goal

abbrev pub invariant-loop-i : goal.invariant-loop-i
invariant-loop-i l =
    (b : ℕ) → b < 64
    → (word_bit l.all b && row_matches (drop l.i l.marks) (drop l.i l.pins) (values_at l.words b)) ≡ row_matches l.marks l.pins (values_at l.words b)
