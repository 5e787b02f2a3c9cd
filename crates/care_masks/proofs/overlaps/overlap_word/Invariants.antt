use Rattle.std.proofs.Common.{◌≡◌, ℕ, ◌<◌, drop}
use Rattle.semantics.specs.Value.{row_matches}
use Rattle.lane_nets.specs.Words.{word_bit, values_at}
use Rattle.care_masks.specs.Overlaps.{two_pass}
use Rattle.care_masks.proofs.OverlapBits.{two_from}
use Rattle.care_masks.proofs.overlaps.overlap_word.Given as goal

abbrev pub invariant-loop-row : goal.invariant-loop-row
invariant-loop-row l =
    (b : ℕ) → b < 64
    → two_from (λ marks. row_matches marks l.pins (values_at l.words b)) (drop l.row-index l.rows) (word_bit l.any b) (word_bit l.two b)
    ≡ two_pass (λ marks. row_matches marks l.pins (values_at l.words b)) l.rows
