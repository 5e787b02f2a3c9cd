use Rattle.std.proofs.Common.{get_or, length, refl, arith}
use Rattle.std.specs.Prelude.{bit_xor}
use Rattle.lane_bits.proofs.Changed.{changed_none, changed_until, changed_more}
use Rattle.lane_bits.proofs.kernels.xor_rest.Goals as goal

pub loop-k-init : goal.loop-k-init
loop-k-init c = changed_none (λ k w. bit_xor w (get_or c.args.a.now k 0)) c.args.from c.args.dst.now

pub loop-k-preserved : goal.loop-k-preserved
loop-k-preserved c =
    changed_more (λ k w. bit_xor w (get_or c.args.a.now k 0)) c.args.from c.loop-k.k _ c.args.dst.now c.loop-k.dst (omega arith) (omega arith) refl c.loop-k.invariant

pub returns : goal.returns
returns c =
    changed_until (λ k w. bit_xor w (get_or c.args.a.now k 0)) c.args.from c.loop-k.k (length c.args.dst.now) c.args.dst.now c.loop-k.dst (omega arith) c.loop-k.invariant
