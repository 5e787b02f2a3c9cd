use Rattle.std.proofs.Common.{◌||◌, List, ap, ◌∙◌}
use Rattle.std.specs.List.{list_any}
use Rattle.semantics.specs.declared.mark.Mark.{Mark}
use Rattle.semantics.specs.Value.{row_matches}
use Rattle.lane_nets.specs.Words.{values_at}
use Rattle.lane_nets.proofs.WordBits.{zero_bit, rows_step, rows_end}
use Rattle.lane_nets.proofs.table_words.rows_word.Goals as goal

pub loop-row-init : goal.loop-row-init
loop-row-init c = λ b low. ap (λ x. x || list_any (λ marks. row_matches marks c.args.pins.now (values_at c.args.words.now b)) c.args.rows.now) (zero_bit b)

pub loop-row-preserved : goal.loop-row-preserved
loop-row-preserved c =
    λ b low. rows_step (λ marks. row_matches marks c.args.pins.now (values_at c.args.words.now b)) c.args.rows.now c.loop-row.row-index b c.loop-row.any c.row_word-any.result
    c.row-item.result c.loop-row-test.true c.row-item.is
    (c.row_word-any.ensures b low ∙ ap (λ (m : List Mark). row_matches m c.args.pins.now (values_at c.args.words.now b)) c.as_slice.ensures) (c.loop-row.invariant b low)

pub returns : goal.returns
returns c =
    λ b low. rows_end (λ marks. row_matches marks c.args.pins.now (values_at c.args.words.now b)) c.args.rows.now c.loop-row.row-index b c.loop-row.any
    c.loop-row-test.false (c.loop-row.invariant b low)
