use Rattle.std.proofs.Common.{◌≡◌, ℕ, ◌↔◌, ◌<◌, IsTrue, length, get_or}
use Rattle.semantics.specs.Error.{word_error}
use Rattle.lane_nets.specs.Words.{word_bit}
use Rattle.lane_nets.specs.Lanes.{lane_at}
use Rattle.lane_nets.specs.Wide.{lane_words}
use Rattle.lane_nets.proofs.wide_lanes.over_by_lanes.Given as goal

abbrev pub invariant-loop-j : goal.invariant-loop-j
invariant-loop-j l = record {
  long : length l.words ≡ 8;
  each : (i b : ℕ) → i < l.j → b < 64 → IsTrue (word_bit (get_or l.words i 0) b) ↔ (l.level < word_error l.kind (lane_at (lane_words l.exact i) b) (lane_at (lane_words l.approx i) b));
}
