use Rattle.std.proofs.Common.{◌≡◌, map, take, slice_index_or}
use Rattle.bdd_nets.proofs.nets.diagrams_of.Given as goal

abbrev pub invariant-loop-s : goal.invariant-loop-s
invariant-loop-s l = l.fs.items ≡ map (λ s. slice_index_or l.signals s 0) (take l.s-index l.some)
