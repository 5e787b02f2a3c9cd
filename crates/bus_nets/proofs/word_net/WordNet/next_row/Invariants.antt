use Rattle.bus_nets.proofs.Steps.{GrowingRow}
use Rattle.bus_nets.proofs.word_net.WordNet.next_row.Given as goal

abbrev pub invariant-loop-at : goal.invariant-loop-at
invariant-loop-at l = GrowingRow l.fn.self l.self l.bit l.at-items l.next l.before l.at-index
