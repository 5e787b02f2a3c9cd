use Rattle.std.proofs.Common.{◌≡◌, ◌≤◌}
use Rattle.cdcl_core.proofs.decision.preferred.Given as goal

abbrev pub invariant-along : goal.invariant-along
invariant-along l = record { low : l.variable ≤ l.order; order : l.order ≡ l.fn.order }
