use Rattle.std.proofs.Common.{◌≡◌, drop, slice_index_or, false}
use Rattle.semantics.specs.Value.{row_matches}
use Rattle.net_parts.proofs.table.row_matches.Given as goal

-- the rest matches as the whole does
abbrev pub invariant-loop-i : goal.invariant-loop-i
invariant-loop-i l =
    row_matches (drop l.i l.marks) (drop l.i l.pins) (λ s. slice_index_or l.vals s false)
    ≡ row_matches l.marks l.pins (λ s. slice_index_or l.vals s false)
