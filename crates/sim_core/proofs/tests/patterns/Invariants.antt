use Rattle.std.proofs.Common.{◌≡◌, length}
use Rattle.sim_core.proofs.tests.patterns.Given as goal

abbrev pub invariant-loop-p : goal.invariant-loop-p
invariant-loop-p l = record { inputs : l.set.inputs ≡ 2; count : length l.set.vectors ≡ l.p }
