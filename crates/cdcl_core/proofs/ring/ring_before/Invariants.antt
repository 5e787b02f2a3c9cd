use Rattle.std.proofs.Common.{◌≡◌, ◌+◌, ◌<◌, length}
use Rattle.std.specs.Prelude.{All}
use Rattle.cdcl_core.proofs.ring.ring_before.Given as goal

abbrev pub invariant-loop-v : goal.invariant-loop-v
invariant-loop-v l = record {
  length : length l.before.items ≡ l.v;
  within : All (λ v. v < l.last + 1) l.before.items;
}
