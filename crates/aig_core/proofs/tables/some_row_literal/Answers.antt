use Rattle.std.proofs.Common.{List, subst}
use Rattle.semantics.specs.declared.mark.Mark.{Mark}
use Rattle.aig_core.specs.Tables.{IsRowOf}
use Rattle.aig_core.proofs.Rows.{row_front, rows_more, rows_done}
use Rattle.aig_core.proofs.tables.some_row_literal.Goals as goal

pub loop-row-preserved : goal.loop-row-preserved
loop-row-preserved c =
    rows_more _ _ _ _ _ _ _ _ _ c.row-item.result _ _ c.loop-row.invariant c.in_ok-this.ensures.grows c.in_ok-some.ensures.grows
    (subst (λ (row : List Mark). IsRowOf c.row_literal.new.g row c.args.pins.now c.args.signals.now c.in_ok-this.this) c.as_slice.ensures c.in_ok-this.ensures.ok) c.in_ok-some.ensures.ok
    (row_front c.args.rows.now c.loop-row.row-index c.row-item.result c.loop-row-test.true c.row-item.is)

pub returns-clause-ok : goal.returns-clause-ok
returns-clause-ok c = rows_done _ _ _ _ _ _ _ c.loop-row.invariant c.loop-row-test.false
