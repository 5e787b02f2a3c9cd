use Rattle.std.proofs.Common.{refl, arith}
use Rattle.bus_nets.proofs.Times.{counted_more}
use Rattle.bus_nets.proofs.Numbers.{counted_has}
use Rattle.bus_nets.proofs.word_net.WordNet.input_bus.Goals as goal

pub loop-place-preserved : goal.loop-place-preserved
loop-place-preserved c = counted_more _ _ _ _ _ _ c.loop-place.invariant refl (rw (← c.self.view_is) (omega arith)) c.in_ok-push.ensures.ok

pub returns-clause-bits : goal.returns-clause-bits
returns-clause-bits c = counted_has _ _ _ _ _ _ c.self.invariant c.self.view_is c.requires c.loop-place.invariant (omega arith)
