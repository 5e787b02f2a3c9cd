use Rattle.bus_nets.proofs.Steps.{Adding}
use Rattle.bus_nets.proofs.word_net.WordNet.add.Given as goal

abbrev pub invariant-loop-place : goal.invariant-loop-place
invariant-loop-place l = Adding l.fn.self l.self l.x l.y l.sums l.carry l.place
