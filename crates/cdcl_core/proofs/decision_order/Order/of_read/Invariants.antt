use Rattle.std.proofs.Common.{◌≡◌}
use Rattle.cdcl_core.proofs.decision_order.Order.of_read.Given as goal

abbrev pub invariant-loop-v : goal.invariant-loop-v
invariant-loop-v l = l.order ≡ l.variables
