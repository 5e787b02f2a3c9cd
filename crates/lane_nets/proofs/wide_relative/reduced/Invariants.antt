use Rattle.std.proofs.Common.{ℕ, ◌↔◌, ◌*◌, ◌<◌}
use Rattle.lane_nets.proofs.wide_relative.reduced.Given as goal

abbrev pub invariant-times : goal.invariant-times
invariant-times l = (x y : ℕ) → (l.left.parts * x < l.left.unit * y) ↔ (l.fn.fraction.parts * x < l.fn.fraction.unit * y)
