use Rattle.std.proofs.Common.{ℕ, suc, ◌<◌, pos, neg_ℤ}
use Rattle.std.specs.Prelude.{◌⊎◌}
use Rattle.cdcl_core.specs.Explained.{Holds}
use Rattle.cdcl_core.proofs.decision.least.Given as goal

abbrev pub invariant-loop-v : goal.invariant-loop-v
invariant-loop-v l = (k : ℕ) → k < l.v → Holds l.trail.literals (pos (suc k)) ⊎ Holds l.trail.literals (neg_ℤ (pos (suc k)))
