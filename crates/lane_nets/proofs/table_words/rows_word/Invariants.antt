use Rattle.std.proofs.Common.{◌≡◌, ℕ, ◌<◌, ◌||◌, drop}
use Rattle.std.specs.List.{list_any}
use Rattle.semantics.specs.Value.{row_matches}
use Rattle.lane_nets.specs.Words.{word_bit, values_at}
use Rattle.lane_nets.proofs.table_words.rows_word.Given as goal

abbrev pub invariant-loop-row : goal.invariant-loop-row
invariant-loop-row l =
    (b : ℕ) → b < 64
    → (word_bit l.any b || list_any (λ marks. row_matches marks l.pins (values_at l.words b)) (drop l.row-index l.rows))
    ≡ list_any (λ marks. row_matches marks l.pins (values_at l.words b)) l.rows
