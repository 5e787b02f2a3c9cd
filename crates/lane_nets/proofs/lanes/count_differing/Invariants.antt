use Rattle.std.proofs.Common.{ℕ, ◌<◌}
use Rattle.lane_nets.specs.Lanes.{HasReached}
use Rattle.lane_nets.proofs.Counting.{IsCounting}
use Rattle.lane_nets.proofs.lanes.count_differing.Given as goal

abbrev pub invariant-loop-j : goal.invariant-loop-j
invariant-loop-j l = (b n : ℕ) → b < 64 → HasReached l.initial.reached b n → IsCounting l.initial.reached l.reached l.differs l.j l.below b n
