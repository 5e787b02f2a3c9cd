use Rattle.std.proofs.Common.{◌*◌, get_or}
use Rattle.std.specs.Prelude.{bit_or}
use Rattle.lane_bits.specs.Changed.{AreChanged}
use Rattle.lane_bits.proofs.kernels.or_rows.Given as goal

abbrev pub invariant-loop-q : goal.invariant-loop-q
invariant-loop-q l = AreChanged (λ k w. bit_or w (get_or l.a k 0)) 0 (8 * l.q) l.initial.dst l.dst
