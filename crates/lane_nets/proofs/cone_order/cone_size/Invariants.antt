use Rattle.std.proofs.Common.{◌≤◌}
use Rattle.lane_nets.proofs.cone_order.cone_size.Given as goal

abbrev pub invariant-loop-i : goal.invariant-loop-i
invariant-loop-i l = l.size ≤ l.i
