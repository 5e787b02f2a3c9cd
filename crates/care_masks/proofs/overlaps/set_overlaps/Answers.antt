use Rattle.std.proofs.Common.{◌≡◌, subst, ◌∙◌, arith}
use Rattle.semantics.specs.Net.{TableValue}
use Rattle.semantics.specs.Value.{row_matches}
use Rattle.lane_nets.specs.Words.{word_bit, values_at}
use Rattle.care_masks.specs.Overlaps.{two_pass, rows_overlap}
use Rattle.care_masks.proofs.OverlapBits.{overlaps_more, overlaps_all}
use Rattle.care_masks.proofs.overlaps.set_overlaps.Goals as goal

pub loop-t-preserved : goal.loop-t-preserved
loop-t-preserved c =
    let words = c.args.words.now in
    let rows : c.as_slice-rows.result.now ≡ c.table-table.result.now.rows = c.as_slice-rows.ensures ∙ c.rows.ensures.value in
    let pins : c.as_slice-pins.result.now ≡ c.table-table.result.now.pins = c.as_slice-pins.ensures ∙ c.pins.ensures.value in
    overlaps_more c.args.net.now words c.loop-t.overlaps c.loop-t.t c.overlap_word.result (omega (arith, c.loop-t-test.true, c.tables-t-end.ensures))
    (omega (arith, c.loop-t.auto.overlaps, c.requires.room))
    (λ b low. subst (λ (table : TableValue). word_bit c.overlap_word.result b ≡ rows_overlap table (values_at words b)) c.table-table.ensures.value
    (c.overlap_word.ensures b low ∙ (λ j. two_pass (λ marks. row_matches marks (pins j) (values_at words b)) (rows j))))
    c.loop-t.invariant

pub returns : goal.returns
returns c =
    overlaps_all c.args.net.now c.args.words.now c.loop-t.overlaps c.loop-t.t (omega (arith, c.loop-t.auto.overlaps, c.requires.room))
    (omega (arith, c.loop-t-test.false, c.tables-t-end.ensures)) c.loop-t.invariant
