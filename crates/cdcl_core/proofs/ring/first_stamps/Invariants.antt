use Rattle.std.proofs.Common.{◌≡◌, ◌+◌, length}
use Rattle.cdcl_core.proofs.ring.first_stamps.Given as goal

abbrev pub invariant-loop-v : goal.invariant-loop-v
invariant-loop-v l = length l.stamps.items ≡ l.v + 1
