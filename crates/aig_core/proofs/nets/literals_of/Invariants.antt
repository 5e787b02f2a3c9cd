use Rattle.std.proofs.Common.{◌≡◌, map, take, slice_index_or}
use Rattle.aig_core.proofs.nets.literals_of.Given as goal

abbrev pub invariant-loop-s : goal.invariant-loop-s
invariant-loop-s l = l.literals.items ≡ map (λ s. slice_index_or l.signals s 0) (take l.s-index l.some)
