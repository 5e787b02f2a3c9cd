use Rattle.std.proofs.Common.{◌≡◌, List, length, All, ap, sym, subst, ◌∙◌}
use Rattle.std.specs.List.{remove}
use Rattle.semantics.specs.declared.mark.Mark.{Mark}
use Rattle.net_moves.proofs.Making.{widths-without}
use Rattle.net_moves.proofs.apply.moved_table.Goals as goal

pub with_rows-requires-clause-widths : goal.with_rows-requires-clause-widths
with_rows-requires-clause-widths c =
    let same : c.in_ok-rows-in-DropRow.rows ≡ remove c.args.table.now.rows c.in-DropRow.row =
    c.in_ok-rows-in-DropRow.ensures ∙ ap (λ (l : List (List Mark)). remove l c.in-DropRow.row) (c.as_slice.ensures ∙ c.rows.ensures.value) in
    subst (All (λ (marks : List Mark). length marks ≡ length c.args.table.now.pins)) (sym same)
    (widths-without (length c.args.table.now.pins) c.in-DropRow.row c.args.table.now.rows c.rows.ensures.formed.widths)
