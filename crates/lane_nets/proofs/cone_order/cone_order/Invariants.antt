use Rattle.std.proofs.Common.{◌≡◌, length}
use Rattle.semantics.specs.Net.{input_count}
use Rattle.lane_nets.proofs.cone_order.cone_order.Given as goal

abbrev pub invariant-loop-p : goal.invariant-loop-p
invariant-loop-p l = length l.order ≡ input_count l.net
