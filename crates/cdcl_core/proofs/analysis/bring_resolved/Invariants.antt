use Rattle.std.proofs.Common.{◌≡◌}
use Rattle.cdcl_core.proofs.analysis.bring_resolved.Given as goal

abbrev pub invariant-loop-hint : goal.invariant-loop-hint
invariant-loop-hint l = l.order ≡ l.initial.order
