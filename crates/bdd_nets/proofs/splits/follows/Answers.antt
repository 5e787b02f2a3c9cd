use Rattle.std.proofs.Common.{arith}
use Rattle.bdd_nets.proofs.Splitting.{all_implied}
use Rattle.bdd_nets.proofs.splits.follows.Goals as goal

pub returns : goal.returns
returns c _ = all_implied c.args.marks.now c.args.chosen.now c.requires (λ j low. c.loop-i.invariant.each j (omega (arith, low, c.loop-i-test.false)))
