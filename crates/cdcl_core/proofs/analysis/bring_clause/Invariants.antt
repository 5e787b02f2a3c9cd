use Rattle.std.proofs.Common.{◌≡◌}
use Rattle.cdcl_core.proofs.analysis.bring_clause.Given as goal

abbrev pub invariant-loop-literal : goal.invariant-loop-literal
invariant-loop-literal l = l.order ≡ l.initial.order
