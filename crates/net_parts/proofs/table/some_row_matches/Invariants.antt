use Rattle.std.proofs.Common.{◌≡◌, drop, slice_index_or, false}
use Rattle.std.specs.List.{list_any}
use Rattle.semantics.specs.Value.{row_matches}
use Rattle.net_parts.proofs.table.some_row_matches.Given as goal

-- the rest matches as the whole does
abbrev pub invariant-loop-row : goal.invariant-loop-row
invariant-loop-row l =
    list_any (λ marks. row_matches marks l.pins (λ s. slice_index_or l.vals s false)) (drop l.row-index l.rows)
    ≡ list_any (λ marks. row_matches marks l.pins (λ s. slice_index_or l.vals s false)) l.rows
