use Rattle.std.proofs.Common.{arith}
use Rattle.bus_nets.proofs.Parts.{IsGrowing-pushed}
use Rattle.bus_nets.proofs.word_net.WordNet.append.Goals as goal

pub invariant_of-self-2 : goal.invariant_of-self-2
invariant_of-self-2 c =
    IsGrowing-pushed _ _ _ _ _ _ _ c.self.invariant c.self.view_is c.requires.pins_in c.requires.widths (omega arith) c.len-count.ensures c.in_ok-table.ensures c.in_ok-push.ensures.ok
