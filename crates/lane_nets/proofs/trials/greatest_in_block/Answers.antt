use Rattle.std.proofs.Common.{◌+◌, ◌<◌, refl, ap, sym, ◌∙◌, arith}
use Rattle.lane_bits.specs.Rows.{row_bit}
use Rattle.lane_nets.proofs.BlockErrors.{block_taken, block_kept, block_skipped, not_over}
use Rattle.lane_nets.proofs.trials.greatest_in_block.Goals as goal
use Rattle.lane_nets.proofs.trials.greatest_in_block.Goals.{then-word_bit, else-word_bit}

pub loop-p-init : goal.loop-p-init
loop-p-init c = λ f value start. (
  block_skipped f c.args.from c.first_place-first.result c.args.so_far.at c.args.so_far.error
      (λ p below.
      let low : p < 512 = omega (arith, below, c.first_place-first.ensures.within, c.requires.few) in
      not_over c.block_over-over.result p c.args.so_far.error _ _ (sym (value p low)) (c.block_over-over.ensures.bits p low) (c.first_place-first.ensures.clear p below))
      start,
  omega arith,
)

pub loop-p-preserved : goal.loop-p-preserved
unfolding row_bit
loop-p-preserved c = λ f value start.
    let p = c.loop-p.p in
    let low : c.loop-p.p < 512 = omega (arith, c.loop-p-test.true, c.requires.few) in
    let before = c.loop-p.invariant f value start in
    elim c.if-word_bit.branch [
      | then-word_bit w ↦
          rw w.greatest-is
          (block_taken f c.args.from p _ c.loop-p.greatest.at c.loop-p.greatest.error w.greater-greatest.result.at w.greater-greatest.result.error c.args.so_far.error
          w.wide_error-error.result (ap (λ n. c.args.from + n) w.from.ensures) (value p low ∙ sym w.wide_error-error.ensures) w.greater-greatest.ensures before)
      | else-word_bit w ↦
          rw w.greatest-is
          (block_kept f c.args.from p c.loop-p.greatest.at c.loop-p.greatest.error c.args.so_far.error _ (value p low)
          (not_over c.block_over-over.result p c.args.so_far.error _ _ refl (c.block_over-over.ensures.bits p low) (sym c.word_bit.ensures ∙ w.if-word_bit.false)) before)
    ]
