use Rattle.std.proofs.Common.{◌≡◌, ◌-◌, length, drop}
use Rattle.semantics.specs.Error.{number_of}
use Rattle.lane_nets.specs.Lanes.{lane_at}
use Rattle.lane_nets.proofs.lanes.lane_value.Given as goal

abbrev pub invariant-loop-i : goal.invariant-loop-i
invariant-loop-i l = l.number ≡ number_of (lane_at (drop (length l.words - l.i) l.words) l.b)
