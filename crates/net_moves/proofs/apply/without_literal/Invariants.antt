use Rattle.std.proofs.Common.{◌≡◌, slice_set, take}
use Rattle.semantics.specs.declared.mark.Mark.TheVariants.{Dash}
use Rattle.net_moves.proofs.apply.without_literal.Given as goal

abbrev pub invariant-loop-i : goal.invariant-loop-i
invariant-loop-i l = l.row ≡ take l.i (slice_set l.marks l.pin Dash)
