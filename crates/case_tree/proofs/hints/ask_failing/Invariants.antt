use Rattle.std.proofs.Common.{◌≡◌, drop, slice_index_or, false}
use Rattle.case_tree.specs.Cases.{asked_by_failing}
use Rattle.case_tree.proofs.hints.ask_failing.Given as goal

-- what the marks that are left ask for is what the row asks for
abbrev pub invariant-loop-i : goal.invariant-loop-i
invariant-loop-i l = record {
  same : l.needed ≡ l.fn.needed;
  rest : asked_by_failing (drop l.i l.marks) (drop l.i l.pins) (λ s. slice_index_or l.values s false) l.needed
      ≡ asked_by_failing l.marks l.pins (λ s. slice_index_or l.values s false) l.fn.needed;
}
