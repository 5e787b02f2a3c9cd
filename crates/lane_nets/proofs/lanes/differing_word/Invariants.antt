use Rattle.std.proofs.Common.{ℕ, ◌<◌}
use Rattle.lane_nets.specs.Lanes.{HasReached}
use Rattle.lane_nets.proofs.Counting.{counted}
use Rattle.lane_nets.proofs.lanes.differing_word.Given as goal

abbrev pub invariant-loop-i : goal.invariant-loop-i
invariant-loop-i l = (b : ℕ) → b < 64 → HasReached l.reached b (counted l.exact l.approx l.i b)
