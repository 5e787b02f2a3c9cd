use Rattle.std.proofs.Common.{◌≡◌, ◌∷◌, replicate}
use Rattle.bus_nets.proofs.forms.row_with_front.Given as goal

abbrev pub invariant-loop-at : goal.invariant-loop-at
invariant-loop-at l = l.row ≡ l.fn.first ∷ replicate l._at l.rest
