use Rattle.std.proofs.Common.{get_or, refl, ◌∙◌, arith}
use Rattle.std.specs.Prelude.{bit_xor}
use Rattle.lane_bits.proofs.Bits.{all_words, xor_rows-bits}
use Rattle.lane_bits.proofs.Changed.{changed_none, changed_eights, changed_all}
use Rattle.lane_bits.proofs.kernels.xor_rows.Goals as goal

pub loop-q-init : goal.loop-q-init
loop-q-init c = changed_none (λ k w. bit_xor w (get_or c.args.a.now k 0)) 0 c.args.dst.now

pub loop-q-preserved : goal.loop-q-preserved
loop-q-preserved c =
    changed_eights (λ k w. bit_xor w (get_or c.args.a.now k 0)) c.loop-q.q c.args.dst.now c.loop-q.dst c.xor_eight.new.dst c.loop-q.invariant c.xor_eight.ensures

pub returns : goal.returns
returns c =
    xor_rows-bits c.args.dst.now c.args.a.now c.xor_rest.new.dst
    (all_words bit_xor refl c.args.dst.now c.args.a.now c.xor_rest.new.dst c.requires (c.xor_rest.auto.dst ∙ c.loop-q.auto.dst)
    (changed_all (λ k w. bit_xor w (get_or c.args.a.now k 0)) c.loop-q.q _ c.args.dst.now c.loop-q.dst c.xor_rest.new.dst (omega arith) (omega arith) (omega arith) c.loop-q.auto.dst
    c.loop-q.invariant c.xor_rest.ensures))
