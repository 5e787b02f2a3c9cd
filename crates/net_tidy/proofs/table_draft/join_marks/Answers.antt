use Rattle.std.proofs.Common.{set, ap, sym, ◌∙◌}
use Rattle.std.proofs.lemmas.List.Edits.{map_over_more}
use Rattle.chain_semantics.specs.TidyRules.{with_marks_joined}
use Rattle.net_tidy.proofs.table_draft.join_marks.Goals as goal

pub loop-row-preserved : goal.loop-row-preserved
loop-row-preserved c =
    ap (set c.loop-row.rows c.loop-row.row-index) (c.join.ensures ∙ ap (with_marks_joined c.args.p c.args.q) (sym c.row-item.is))
    ∙ map_over_more (with_marks_joined c.args.p c.args.q) c.args.rows.now c.loop-row.rows c.loop-row.row-index _ c.loop-row-test.true c.loop-row.invariant c.row-item.is
