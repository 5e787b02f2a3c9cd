use Rattle.bus_nets.proofs.Steps.{Counted}
use Rattle.bus_nets.proofs.word_net.WordNet.input_bus.Given as goal

abbrev pub invariant-loop-place : goal.invariant-loop-place
invariant-loop-place l = Counted l.self l.fn.from l.bus l.place
