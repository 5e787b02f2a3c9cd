use Rattle.std.proofs.Common.{◌≡◌, ◌≤◌, length, drop, reverse, slice_index_or, false}
use Rattle.semantics.specs.Net.{input_count}
use Rattle.case_tree.specs.Cases.{needed_before, hints_before}
use Rattle.case_tree.proofs.hints.push_tables.Given as goal

-- the hints of the tables from one on are there
abbrev pub invariant-loop-left : goal.invariant-loop-left
invariant-loop-left l = record {
  within : l.left ≤ length l.order;
  needed : l.needed ≡ needed_before (input_count l.net) l.net.tables (λ s. slice_index_or l.values s false) l.fn.needed (drop l.left l.order);
  pushed : l.hints.items ≡ reverse (hints_before (input_count l.net) l.net.tables (λ s. slice_index_or l.values s false) l.fn.needed (drop l.left l.order));
}

abbrev pub decreases-loop-left : goal.decreases-loop-left
decreases-loop-left l = l.left
