use Rattle.std.proofs.Common.{◌∙◌, get_or, arith}
use Rattle.std.specs.Prelude.{bit_and, bit_xor}
use Rattle.lane_bits.proofs.Bits.{and_rows-bits}
use Rattle.lane_bits.proofs.Changed.{changed_none, changed_eights, changed_all}
use Rattle.lane_bits.proofs.kernels.and_rows.Goals as goal

pub loop-q-init : goal.loop-q-init
loop-q-init c =
    changed_none (λ k w. bit_and (bit_xor (get_or c.args.a.now k 0) c.flip_word-flips_a.result) (bit_xor (get_or c.args.b.now k 0) c.flip_word-flips_b.result)) 0 c.args.dst.now

pub loop-q-preserved : goal.loop-q-preserved
loop-q-preserved c =
    changed_eights (λ k w. bit_and (bit_xor (get_or c.args.a.now k 0) c.flip_word-flips_a.result) (bit_xor (get_or c.args.b.now k 0) c.flip_word-flips_b.result)) c.loop-q.q c.args.dst.now c.loop-q.dst
    c.and_eight.new.dst c.loop-q.invariant c.and_eight.ensures

pub returns : goal.returns
returns c = λ p low.
    and_rows-bits c.args.a.now c.args.b.now c.and_rest.new.dst c.args.flip_a c.args.flip_b
    (λ k within.
    changed_all (λ k w. bit_and (bit_xor (get_or c.args.a.now k 0) c.flip_word-flips_a.result) (bit_xor (get_or c.args.b.now k 0) c.flip_word-flips_b.result)) c.loop-q.q _ c.args.dst.now c.loop-q.dst
    c.and_rest.new.dst (omega arith) (omega arith) (omega arith) c.loop-q.auto.dst c.loop-q.invariant c.and_rest.ensures k (omega (arith, within, c.and_rest.auto.dst, c.loop-q.auto.dst))
    ∙ (λ i. bit_and (bit_xor (get_or c.args.a.now k 0) (c.flip_word-flips_a.ensures i)) (bit_xor (get_or c.args.b.now k 0) (c.flip_word-flips_b.ensures i))))
    p (omega (arith, low, c.and_rest.auto.dst, c.loop-q.auto.dst))
