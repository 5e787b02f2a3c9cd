use Rattle.std.proofs.Common.{◌≡◌}
use Rattle.cdcl_core.proofs.analysis.bring_marked.Given as goal

abbrev pub invariant-loop-i : goal.invariant-loop-i
invariant-loop-i l = l.order ≡ l.initial.order
