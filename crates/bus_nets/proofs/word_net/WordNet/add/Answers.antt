use Rattle.std.proofs.Common.{arith}
use Rattle.bus_nets.proofs.Steps.{adding_more}
use Rattle.bus_nets.proofs.Numbers.{adding_has}
use Rattle.bus_nets.proofs.word_net.WordNet.add.Goals as goal

pub loop-place-preserved : goal.loop-place-preserved
loop-place-preserved c =
    adding_more _ _ _ _ _ _ _ _ _ _ _ _ _ c.loop-place.invariant (omega arith) c.bit-a.ensures.value c.bit-b.ensures.value c.in_ok-sum.ensures.ok c.in_ok-sum.ensures.sum c.in_ok-sum.ensures.carry
    c.in_ok-push.ensures.ok c.in_ok-sum.ensures.within.0 c.in_ok-sum.ensures.within.1 c.in_ok-sum.ensures.more c.in_ok-sum.ensures.begins

pub returns-clause-number : goal.returns-clause-number
returns-clause-number c = adding_has _ _ _ _ _ _ _ _ c.loop-place.invariant (omega arith) c.in_ok-push-2.ensures.ok
