use Rattle.std.proofs.Common.{set, take, ap, sym, ◌∙◌}
use Rattle.std.proofs.lemmas.List.Edits.{map_over_more}
use Rattle.care_masks.proofs.growing.cut_rows.Goals as goal

pub loop-row-preserved : goal.loop-row-preserved
loop-row-preserved c =
    ap (set c.loop-row.rows c.loop-row.row-index) (c.truncate.ensures ∙ ap (take c.args.blocks) (sym c.row-item.is))
    ∙ map_over_more (take c.args.blocks) c.args.rows.now c.loop-row.rows c.loop-row.row-index _ c.loop-row-test.true c.loop-row.invariant c.row-item.is
