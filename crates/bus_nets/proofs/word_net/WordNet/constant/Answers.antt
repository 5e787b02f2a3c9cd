use Rattle.bus_nets.proofs.Times.{pushing_more, pushing_all}
use Rattle.bus_nets.proofs.Numbers.{constant_has}
use Rattle.bus_nets.proofs.word_net.WordNet.constant.Goals as goal

pub loop-rest-preserved : goal.loop-rest-preserved
loop-rest-preserved c = pushing_more _ _ _ _ _ _ c.loop-rest.invariant c.loop-rest-test.true c.constant_bit.ensures.value c.constant_bit.ensures.within c.in_ok-push.ensures.ok

pub returns-clause-value : goal.returns-clause-value
returns-clause-value c = pushing_all _ _ _ _ c.loop-rest.invariant c.loop-rest-test.false

pub returns-clause-number : goal.returns-clause-number
returns-clause-number c = constant_has _ _ _ (pushing_all _ _ _ _ c.loop-rest.invariant c.loop-rest-test.false)
