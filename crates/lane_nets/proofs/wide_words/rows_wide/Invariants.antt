use Rattle.std.proofs.Common.{◌≡◌, ℕ, ◌<◌, ◌||◌, drop, get_or}
use Rattle.std.specs.List.{list_any}
use Rattle.semantics.specs.Value.{row_matches}
use Rattle.lane_nets.specs.Words.{word_bit, values_at}
use Rattle.lane_nets.specs.Wide.{lane_words}
use Rattle.lane_nets.proofs.wide_words.rows_wide.Given as goal

abbrev pub invariant-loop-row : goal.invariant-loop-row
invariant-loop-row l =
    (j b : ℕ) → j < 8 → b < 64
    → (word_bit (get_or l.any j 0) b || list_any (λ marks. row_matches marks l.pins (values_at (lane_words l.wides j) b)) (drop l.row-index l.rows))
    ≡ list_any (λ marks. row_matches marks l.pins (values_at (lane_words l.wides j) b)) l.rows
