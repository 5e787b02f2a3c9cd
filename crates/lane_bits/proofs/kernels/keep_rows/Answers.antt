use Rattle.std.proofs.Common.{◌∙◌, get_or, arith}
use Rattle.std.specs.Prelude.{bit_and, bit_xor}
use Rattle.lane_bits.proofs.Bits.{keep_rows-bits}
use Rattle.lane_bits.proofs.Changed.{changed_none, changed_eights, changed_all}
use Rattle.lane_bits.proofs.kernels.keep_rows.Goals as goal

pub loop-q-init : goal.loop-q-init
loop-q-init c = changed_none (λ k w. bit_and w (bit_xor (get_or c.args.a.now k 0) c.flip_word-flips_a.result)) 0 c.args.dst.now

pub loop-q-preserved : goal.loop-q-preserved
loop-q-preserved c =
    changed_eights (λ k w. bit_and w (bit_xor (get_or c.args.a.now k 0) c.flip_word-flips_a.result)) c.loop-q.q c.args.dst.now c.loop-q.dst c.keep_eight.new.dst c.loop-q.invariant c.keep_eight.ensures

pub returns : goal.returns
returns c =
    keep_rows-bits c.args.a.now c.args.dst.now c.keep_rest.new.dst c.args.flip_a
    (λ k within.
    changed_all (λ k w. bit_and w (bit_xor (get_or c.args.a.now k 0) c.flip_word-flips_a.result)) c.loop-q.q _ c.args.dst.now c.loop-q.dst c.keep_rest.new.dst
    (omega arith) (omega arith) (omega arith) c.loop-q.auto.dst c.loop-q.invariant c.keep_rest.ensures k within
    ∙ (λ i. bit_and (get_or c.args.dst.now k 0) (bit_xor (get_or c.args.a.now k 0) (c.flip_word-flips_a.ensures i))))
