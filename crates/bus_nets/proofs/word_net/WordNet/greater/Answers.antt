use Rattle.std.proofs.Common.{arith}
use Rattle.bus_nets.proofs.Numbers.{comparing_has}
use Rattle.bus_nets.proofs.word_net.WordNet.greater.Goals as goal

pub returns-clause-value : goal.returns-clause-value
returns-clause-value c = comparing_has _ _ _ _ _ _ c.loop-place.invariant (omega arith)
