use Rattle.word_nets.proofs.Multiplying.{making_has}
use Rattle.word_nets.proofs.multiplier.products.Goals as goal

pub returns-clause-number : goal.returns-clause-number
returns-clause-number c = making_has _ _ _ _ _ _ _ c.loop-at.invariant c.loop-at-test.false c.as_slice-at-items.ensures
