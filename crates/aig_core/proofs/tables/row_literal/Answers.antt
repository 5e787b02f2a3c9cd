use Rattle.std.proofs.Common.{get_or, refl, arith}
use Rattle.aig_core.proofs.Rows.{row_more, row_done, row_next}
use Rattle.aig_core.proofs.tables.row_literal.Goals as goal

pub loop-i-preserved : goal.loop-i-preserved
loop-i-preserved c =
    row_more c.args.g.now c.loop-i.g c.with_mark.new.g c.args.marks.now c.args.pins.now c.args.signals.now c.loop-i.i c.loop-i.all _ (get_or c.args.pins.now c.loop-i.i 0) _ c.in_ok-all.all
    c.loop-i.invariant c.in_ok-all.ensures.grows c.in_ok-all.ensures.ok refl
    (row_next c.args.marks.now c.loop-i.i _ c.loop-i-test.true)
    (row_next c.args.pins.now c.loop-i.i 0 (omega (arith, c.requires.widths)))

pub returns-clause-ok : goal.returns-clause-ok
returns-clause-ok c = row_done _ _ _ _ _ _ _ c.loop-i.invariant c.loop-i-test.false
