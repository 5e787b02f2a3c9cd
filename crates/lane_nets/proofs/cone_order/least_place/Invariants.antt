use Rattle.std.proofs.Common.{◌<◌, length}
use Rattle.lane_nets.proofs.cone_order.least_place.Given as goal

abbrev pub invariant-loop-p : goal.invariant-loop-p
invariant-loop-p l = l.least < length l.order
