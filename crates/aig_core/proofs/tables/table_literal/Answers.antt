use Rattle.std.proofs.Common.{◌∙◌, sym}
use Rattle.aig_core.proofs.Rows.{table_true, table_false, same_rows}
use Rattle.aig_core.proofs.tables.table_literal.Goals as goal

pub returns-then-plane-clause-ok : goal.returns-then-plane-clause-ok
returns-then-plane-clause-ok c =
    table_true c.some_row_literal.new.g c.args.table.now c.args.signals.now c.in_ok-some.some
    (same_rows _ _ _ _ _ _ _ c.in_ok-some.ensures.ok (c.as_slice.ensures ∙ c.rows.ensures.value) (c.as_slice-2.ensures ∙ c.pins.ensures.value))
    (sym c.if-plane.ensures.value)

pub returns-else-plane-clause-ok : goal.returns-else-plane-clause-ok
returns-else-plane-clause-ok c =
    table_false c.some_row_literal.new.g c.args.table.now c.args.signals.now c.in_ok-some.some c.opposite.result
    (same_rows _ _ _ _ _ _ _ c.in_ok-some.ensures.ok (c.as_slice.ensures ∙ c.rows.ensures.value) (c.as_slice-2.ensures ∙ c.pins.ensures.value))
    c.opposite.ensures.value (sym c.if-plane.ensures.value)
