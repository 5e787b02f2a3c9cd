use Rattle.std.proofs.Common.{◌≡◌, ℕ, ◌+◌, ◌/◌, ◌%◌, ◌<◌, ◌≤◌}
use Rattle.semantics.specs.Error.{error_of}
use Rattle.lane_nets.specs.Lanes.{lane_at}
use Rattle.lane_nets.specs.Wide.{lane_words}
use Rattle.lane_nets.specs.Errors.{IsGreatestSoFar}
use Rattle.lane_nets.proofs.trials.greatest_in_block.Given as goal

abbrev pub invariant-loop-p : goal.invariant-loop-p
invariant-loop-p l =
    (f : ℕ → ℕ) → ((p : ℕ) → p < 512 → f (l.from + p) ≡ error_of l.metric (lane_at (lane_words l.exact (p / 64)) (p % 64)) (lane_at (lane_words l.wides (p / 64)) (p % 64)))
    → IsGreatestSoFar f l.from l.fn.so_far.at l.fn.so_far.error
    → IsGreatestSoFar f (l.from + l.p) l.greatest.at l.greatest.error × (l.fn.so_far.error ≤ l.greatest.error)
