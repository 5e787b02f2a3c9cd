use Rattle.std.proofs.Common.{arith}
use Rattle.bus_nets.proofs.Steps.{differing_more, differing_all}
use Rattle.bus_nets.proofs.Numbers.{differing_has}
use Rattle.bus_nets.proofs.word_net.WordNet.differ.Goals as goal

pub loop-place-preserved : goal.loop-place-preserved
loop-place-preserved c =
    differing_more _ _ _ _ _ _ _ _ _ _ _ c.loop-place.invariant (omega arith) c.bit-a.ensures.value c.bit-b.ensures.value c.in_ok-bit.ensures.ok c.in_ok-bit.ensures.signal c.in_ok-push.ensures.ok
    c.in_ok-bit.ensures.within c.in_ok-bit.ensures.begins

pub returns-clause-bus : goal.returns-clause-bus
returns-clause-bus c = differing_all _ _ _ _ _ _ c.loop-place.invariant (omega arith)

pub returns-clause-count : goal.returns-clause-count
returns-clause-count c = λ same. differing_has _ _ _ _ _ _ c.loop-place.invariant (omega arith) same
