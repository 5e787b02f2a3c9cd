use Rattle.std.proofs.Common.{◌≡◌, ◌+◌, ◌++◌, drop, reverse, sum_by, slice_index_or, false}
use Rattle.semantics.specs.Net.{row_literals}
use Rattle.case_tree.specs.Cases.{match_hints, asked_by_match}
use Rattle.case_tree.proofs.hints.push_match.Given as goal

-- the first row that matches is among the rows that are left
abbrev pub invariant-loop-row : goal.invariant-loop-row
invariant-loop-row l = record {
  pushed : l.hints.items ++ reverse (match_hints l.id l.implied l.pins (drop l.row-index l.rows) (λ s. slice_index_or l.values s false))
      ≡ l.fn.hints.items ++ reverse (match_hints l.fn.ids.rows l.fn.ids.implications l.pins l.rows (λ s. slice_index_or l.values s false));
  asked : asked_by_match l.pins (drop l.row-index l.rows) (λ s. slice_index_or l.values s false) l.needed
      ≡ asked_by_match l.pins l.rows (λ s. slice_index_or l.values s false) l.fn.needed;
  ids : l.id + sum_by (λ marks. row_literals marks + 1) (drop l.row-index l.rows) ≡ l.fn.ids.rows + sum_by (λ marks. row_literals marks + 1) l.rows;
  implied : l.implied ≡ l.fn.ids.implications + l.row-index;
}
