use Rattle.bus_nets.proofs.Steps.{Pushing}
use Rattle.bus_nets.proofs.word_net.WordNet.constant.Given as goal

abbrev pub invariant-loop-rest : goal.invariant-loop-rest
invariant-loop-rest l = Pushing l.self l.k l.bus l.rest

abbrev pub decreases-loop-rest : goal.decreases-loop-rest
decreases-loop-rest l = l.rest
