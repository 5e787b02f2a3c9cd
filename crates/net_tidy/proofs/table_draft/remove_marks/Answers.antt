use Rattle.std.proofs.Common.{set, ap, sym, ◌∙◌}
use Rattle.std.specs.List.{remove}
use Rattle.std.proofs.lemmas.List.Edits.{map_over_more}
use Rattle.net_tidy.proofs.table_draft.remove_marks.Goals as goal

pub loop-row-preserved : goal.loop-row-preserved
loop-row-preserved c =
    ap (set c.loop-row.rows c.loop-row.row-index) (c.remove.ensures ∙ ap (λ marks. remove marks c.args.q) (sym c.row-item.is))
    ∙ map_over_more (λ marks. remove marks c.args.q) c.args.rows.now c.loop-row.rows c.loop-row.row-index _ c.loop-row-test.true c.loop-row.invariant c.row-item.is
