use Rattle.std.proofs.Common.{◌≡◌, length}
use Rattle.cdcl_core.proofs.decision_order.move_noted.Given as goal

abbrev pub invariant-each : goal.invariant-each
invariant-each l = l.ring ≡ l.fn.ring

abbrev pub decreases-each : goal.decreases-each
decreases-each l = length l.noted.items
