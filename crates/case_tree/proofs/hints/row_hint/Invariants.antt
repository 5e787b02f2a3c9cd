use Rattle.std.proofs.Common.{◌≡◌, ◌+◌, ◌≤◌, drop, slice_index_or, false}
use Rattle.case_tree.specs.Cases.{row_hint}
use Rattle.case_tree.proofs.hints.row_hint.Given as goal

-- the hint of the marks that are left is that of the row
abbrev pub invariant-loop-i : goal.invariant-loop-i
invariant-loop-i l = record {
  rest : row_hint l.hint (drop l.i l.marks) (drop l.i l.pins) (λ s. slice_index_or l.values s false) ≡ row_hint l.next l.marks l.pins (λ s. slice_index_or l.values s false);
  near : l.hint ≤ l.next + l.i;
}
