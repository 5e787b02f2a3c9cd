use Rattle.std.proofs.Common.{List, ap, sym, ◌∙◌}
use Rattle.semantics.specs.declared.mark.Mark.{Mark}
use Rattle.semantics.specs.Value.{row_matches}
use Rattle.lane_nets.specs.Words.{values_at}
use Rattle.lane_nets.proofs.WordBits.{zero_bit}
use Rattle.care_masks.proofs.OverlapBits.{too_few, two_from, two_step, two_end}
use Rattle.care_masks.proofs.overlaps.overlap_word.Goals as goal

pub returns-then-rows-lt2 : goal.returns-then-rows-lt2
returns-then-rows-lt2 c = λ b low. zero_bit b ∙ sym (too_few (λ marks. row_matches marks c.args.pins.now (values_at c.args.words.now b)) c.args.rows.now c.if-rows-lt2.true)

pub loop-row-init : goal.loop-row-init
loop-row-init c = λ b low j. two_from (λ marks. row_matches marks c.args.pins.now (values_at c.args.words.now b)) c.args.rows.now (zero_bit b j) (zero_bit b j)

pub loop-row-preserved : goal.loop-row-preserved
loop-row-preserved c =
    λ b low. two_step (λ marks. row_matches marks c.args.pins.now (values_at c.args.words.now b)) c.args.rows.now c.loop-row.row-index b c.loop-row.any c.loop-row.two c.row_word-matched.result
    c.row-item.result c.loop-row-test.true c.row-item.is
    (c.row_word-matched.ensures b low ∙ ap (λ (m : List Mark). row_matches m c.args.pins.now (values_at c.args.words.now b)) c.as_slice.ensures) (c.loop-row.invariant b low)

pub returns : goal.returns
returns c =
    λ b low. two_end (λ marks. row_matches marks c.args.pins.now (values_at c.args.words.now b)) c.args.rows.now c.loop-row.row-index b c.loop-row.any c.loop-row.two
    c.loop-row-test.false (c.loop-row.invariant b low)
