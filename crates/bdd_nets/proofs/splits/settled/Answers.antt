use Rattle.std.proofs.Common.{arith}
use Rattle.bdd_nets.proofs.Splitting.{never_settled}
use Rattle.bdd_nets.proofs.splits.settled.Goals as goal

pub returns-else-possible-2 : goal.returns-else-possible-2
returns-else-possible-2 c =
    never_settled c.args.rows.now c.args.chosen.now (λ j low. c.loop-row.invariant.none c.if-possible-2.false j (omega (arith, low, c.loop-row-test.false)))
