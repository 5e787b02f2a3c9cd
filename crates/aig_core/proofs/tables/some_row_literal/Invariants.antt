use Rattle.aig_core.proofs.Rows.{AreRowsSoFar}
use Rattle.aig_core.proofs.tables.some_row_literal.Given as goal

abbrev pub invariant-loop-row : goal.invariant-loop-row
invariant-loop-row l = AreRowsSoFar l.initial.g l.g l.rows l.pins l.signals l.row-index l.some
