use Rattle.std.proofs.Common.{◌≡◌, map, take}
use Rattle.text_words.specs.Slices.{texts}
use Rattle.hier_flat.proofs.plans.formals_of.Given as goal

abbrev pub invariant-loop-b : goal.invariant-loop-b
invariant-loop-b l = texts l.names.items ≡ map (λ b. b.formal) (take l.b-index l.b-items)
