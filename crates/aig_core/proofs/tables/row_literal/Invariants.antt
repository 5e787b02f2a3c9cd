use Rattle.aig_core.proofs.Rows.{IsRowSoFar}
use Rattle.aig_core.proofs.tables.row_literal.Given as goal

abbrev pub invariant-loop-i : goal.invariant-loop-i
invariant-loop-i l = IsRowSoFar l.initial.g l.g l.marks l.pins l.signals l.i l.all
