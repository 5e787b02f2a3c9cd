use Rattle.std.proofs.Common.{◌≡◌, ℕ, ◌<◌, get_or}
use Rattle.semantics.specs.Net.{table_at}
use Rattle.lane_nets.specs.Words.{word_bit, values_at}
use Rattle.care_masks.specs.Overlaps.{rows_overlap}
use Rattle.care_masks.proofs.overlaps.set_overlaps.Given as goal

abbrev pub invariant-loop-t : goal.invariant-loop-t
invariant-loop-t l = (i b : ℕ) → i < l.t → b < 64 → word_bit (get_or l.overlaps i 0) b ≡ rows_overlap (table_at l.net.tables i) (values_at l.words b)
