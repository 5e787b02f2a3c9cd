use Rattle.std.proofs.Common.{◌≡◌, ◌+◌, ◌-◌, ◌≤◌, ◌++◌, length, drop, reverse, sum_by, slice_index_or, false}
use Rattle.semantics.specs.Net.{row_literals}
use Rattle.case_tree.specs.Cases.{failing_hints, asked_by_rows}
use Rattle.case_tree.proofs.hints.push_failing.Given as goal

-- the hints of the rows from one on are there, and what they rest on is asked for
abbrev pub invariant-loop-left : goal.invariant-loop-left
invariant-loop-left l = record {
  within : l.left ≤ length l.rows;
  pushed : l.hints.items
      ≡ l.fn.hints.items ++ reverse (failing_hints l.id (l.last - length l.rows + l.left) l.pins (drop l.left l.rows) (λ s. slice_index_or l.values s false));
  asked : l.needed ≡ asked_by_rows l.pins (drop l.left l.rows) (λ s. slice_index_or l.values s false) l.fn.needed;
  ids : l.id + sum_by (λ marks. row_literals marks + 1) (drop l.left l.rows) + length l.rows ≡ l.last;
}

abbrev pub decreases-loop-left : goal.decreases-loop-left
decreases-loop-left l = l.left
