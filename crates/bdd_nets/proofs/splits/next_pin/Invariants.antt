use Rattle.std.proofs.Common.{◌≡◌, slice_index_or}
use Rattle.std.specs.Prelude.{IfSome}
use Rattle.semantics.specs.declared.mark.Mark.TheVariants.{Zero, Dash}
use Rattle.bdd_nets.proofs.splits.next_pin.Given as goal

abbrev pub invariant-loop-p : goal.invariant-loop-p
invariant-loop-p l = IfSome l.next (λ p. slice_index_or l.chosen p Zero ≡ Dash)
