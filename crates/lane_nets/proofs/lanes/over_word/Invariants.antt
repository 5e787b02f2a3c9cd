use Rattle.std.proofs.Common.{ℕ, ◌↔◌, ◌<◌, IsTrue}
use Rattle.semantics.specs.Error.{greatest_of, error_of_word}
use Rattle.lane_nets.specs.Words.{word_bit}
use Rattle.lane_nets.specs.Lanes.{lane_at}
use Rattle.lane_nets.proofs.lanes.over_word.Given as goal

-- the lanes where the error of one of the words so far exceeds the level
abbrev pub invariant-loop-word : goal.invariant-loop-word
invariant-loop-word l =
    (b : ℕ) → b < 64 → IsTrue (word_bit l.over b) ↔ (l.level < greatest_of (error_of_word l.metric (lane_at l.exact b) (lane_at l.approx b)) l.word)
