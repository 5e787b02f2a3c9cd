use Rattle.std.proofs.Common.{◌≡◌, take}
use Rattle.lane_nets.specs.Lanes.{lane_at}
use Rattle.lane_nets.proofs.lanes.set_lane.Given as goal

abbrev pub invariant-loop-i : goal.invariant-loop-i
invariant-loop-i l = take l.i l.bits ≡ lane_at (take l.i l.words) l.b
