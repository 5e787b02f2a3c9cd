use Rattle.std.proofs.Common.{◌≡◌, drop}
use Rattle.case_tree.specs.Cases.{asked_by_row}
use Rattle.case_tree.proofs.hints.ask_row.Given as goal

-- with what the marks that are left ask for, it is what the row asks for
abbrev pub invariant-loop-i : goal.invariant-loop-i
invariant-loop-i l = asked_by_row (drop l.i l.marks) (drop l.i l.pins) l.needed ≡ asked_by_row l.marks l.pins l.initial.needed
