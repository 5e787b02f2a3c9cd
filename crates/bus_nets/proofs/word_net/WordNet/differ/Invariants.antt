use Rattle.bus_nets.proofs.Steps.{Differing}
use Rattle.bus_nets.proofs.word_net.WordNet.differ.Given as goal

abbrev pub invariant-loop-place : goal.invariant-loop-place
invariant-loop-place l = Differing l.fn.self l.self l.x l.y l.bits l.place
