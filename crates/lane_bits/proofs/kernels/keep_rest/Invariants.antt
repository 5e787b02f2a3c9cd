use Rattle.std.proofs.Common.{get_or}
use Rattle.std.specs.Prelude.{bit_and, bit_xor}
use Rattle.lane_bits.specs.Changed.{AreChanged}
use Rattle.lane_bits.proofs.kernels.keep_rest.Given as goal

abbrev pub invariant-loop-k : goal.invariant-loop-k
invariant-loop-k l = AreChanged (λ k w. bit_and w (bit_xor (get_or l.a k 0) l.flips_a)) l.from l.k l.initial.dst l.dst
