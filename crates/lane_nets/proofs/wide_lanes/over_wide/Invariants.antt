use Rattle.std.proofs.Common.{ℕ, ◌↔◌, ◌<◌, IsTrue, get_or}
use Rattle.semantics.specs.Error.{greatest_of, error_of_word}
use Rattle.lane_nets.specs.Words.{word_bit}
use Rattle.lane_nets.specs.Lanes.{lane_at}
use Rattle.lane_nets.specs.Wide.{lane_words}
use Rattle.lane_nets.proofs.wide_lanes.over_wide.Given as goal

-- the lanes where the error of one of the words so far exceeds the level
abbrev pub invariant-loop-word : goal.invariant-loop-word
invariant-loop-word l =
    (j b : ℕ) → j < 8 → b < 64
    → IsTrue (word_bit (get_or l.over j 0) b) ↔ (l.level < greatest_of (error_of_word l.metric (lane_at (lane_words l.exact j) b) (lane_at (lane_words l.approx j) b)) l.word)
