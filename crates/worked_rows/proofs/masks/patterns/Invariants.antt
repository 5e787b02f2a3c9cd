use Rattle.std.proofs.Common.{◌≡◌}
use Rattle.worked_rows.proofs.masks.patterns.Given as goal

abbrev pub invariant-loop-zero : goal.invariant-loop-zero
invariant-loop-zero l = l.patterns.inputs ≡ 2
