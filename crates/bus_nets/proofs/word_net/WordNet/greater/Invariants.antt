use Rattle.bus_nets.proofs.Steps.{Comparing}
use Rattle.bus_nets.proofs.word_net.WordNet.greater.Given as goal

abbrev pub invariant-loop-place : goal.invariant-loop-place
invariant-loop-place l = Comparing l.fn.self l.self l.x l.y l.above l.place
