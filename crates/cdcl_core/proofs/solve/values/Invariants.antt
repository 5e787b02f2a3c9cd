use Rattle.std.proofs.Common.{◌≡◌, ℕ, suc, ◌<◌, ◌↔◌, false, IsTrue, length, get_or, pos}
use Rattle.cdcl_core.specs.Explained.{Holds}
use Rattle.cdcl_core.proofs.solve.values.Given as goal

abbrev pub invariant-loop-v : goal.invariant-loop-v
invariant-loop-v l = record {
  width : length l.bits ≡ l.v;
  each : (k : ℕ) → k < l.v → IsTrue (get_or l.bits k false) ↔ Holds l.trail.literals (pos (suc k));
}
