use Rattle.bus_nets.proofs.Steps.{Counting}
use Rattle.bus_nets.proofs.word_net.WordNet.at_least.Given as goal

abbrev pub invariant-loop-bit : goal.invariant-loop-bit
invariant-loop-bit l = Counting l.fn.self l.self l.fn.k l.bit-items l.row l.bit-index
