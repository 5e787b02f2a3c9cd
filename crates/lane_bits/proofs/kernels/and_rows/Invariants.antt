use Rattle.std.proofs.Common.{◌*◌, get_or}
use Rattle.std.specs.Prelude.{bit_and, bit_xor}
use Rattle.lane_bits.specs.Changed.{AreChanged}
use Rattle.lane_bits.proofs.kernels.and_rows.Given as goal

abbrev pub invariant-loop-q : goal.invariant-loop-q
invariant-loop-q l = AreChanged (λ k w. bit_and (bit_xor (get_or l.a k 0) l.flips_a) (bit_xor (get_or l.b k 0) l.flips_b)) 0 (8 * l.q) l.initial.dst l.dst
