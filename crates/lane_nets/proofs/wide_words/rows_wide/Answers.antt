use Rattle.std.proofs.Common.{◌||◌, ◌+◌, List, drop, get_or, ap, ◌∙◌}
use Rattle.std.specs.List.{list_any}
use Rattle.semantics.specs.declared.mark.Mark.{Mark}
use Rattle.semantics.specs.Value.{row_matches}
use Rattle.lane_nets.specs.Words.{word_bit, values_at}
use Rattle.lane_nets.specs.Wide.{lane_words}
use Rattle.lane_nets.proofs.WordBits.{zero_bit, rows_step, rows_end}
use Rattle.lane_nets.proofs.wide_words.rows_wide.Goals as goal

pub loop-row-init : goal.loop-row-init
loop-row-init c = λ j b lane low.
    ap (λ x. x || list_any (λ marks. row_matches marks c.args.pins.now (values_at (lane_words c.args.wides.now j) b)) c.args.rows.now)
    (ap (λ w. word_bit w b) (c.equal_words-any.ensures j lane) ∙ zero_bit b)

pub loop-row-preserved : goal.loop-row-preserved
loop-row-preserved c = λ j b lane low.
    ap (λ w. word_bit w b || list_any (λ marks. row_matches marks c.args.pins.now (values_at (lane_words c.args.wides.now j) b)) (drop (c.loop-row.row-index + 1) c.args.rows.now))
    (c.or_wide-any.ensures j lane)
    ∙ rows_step (λ marks. row_matches marks c.args.pins.now (values_at (lane_words c.args.wides.now j) b)) c.args.rows.now c.loop-row.row-index b (get_or c.loop-row.any j 0)
    (get_or c.row_wide.result j 0) c.row-item.result c.loop-row-test.true c.row-item.is
    (c.row_wide.ensures j b lane low ∙ ap (λ (m : List Mark). row_matches m c.args.pins.now (values_at (lane_words c.args.wides.now j) b)) c.as_slice.ensures)
    (c.loop-row.invariant j b lane low)

pub returns : goal.returns
returns c = λ j b lane low.
    rows_end (λ marks. row_matches marks c.args.pins.now (values_at (lane_words c.args.wides.now j) b)) c.args.rows.now c.loop-row.row-index b (get_or c.loop-row.any j 0)
    c.loop-row-test.false (c.loop-row.invariant j b lane low)
