use Rattle.std.proofs.Common.{◌≡◌}
use Rattle.cdcl_core.proofs.decision_order.Order.with_values.Given as goal

abbrev pub invariant-loop-v : goal.invariant-loop-v
invariant-loop-v l = l.order ≡ l.variables

abbrev pub invariant-loop-place : goal.invariant-loop-place
invariant-loop-place l = l.order ≡ l.variables
