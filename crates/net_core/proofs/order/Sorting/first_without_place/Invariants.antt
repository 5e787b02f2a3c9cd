use Rattle.std.proofs.Common.{ℕ, ◌<◌, Contains}
use Rattle.net_core.proofs.order.Sorting.first_without_place.Given as goal

abbrev pub invariant-loop-i : goal.invariant-loop-i
invariant-loop-i l = (j : ℕ) → j < l.i → Contains l.self.order j
