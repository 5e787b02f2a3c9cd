use Rattle.bdd_nets.proofs.Splitting.{clash_at}
use Rattle.bdd_nets.proofs.splits.clashes.Goals as goal

pub returns-then-is_opposite : goal.returns-then-is_opposite
returns-then-is_opposite c _ =
    clash_at c.args.marks.now c.args.chosen.now c.loop-i.i c.requires c.loop-i-test.true (λ bit on. c.is_opposite.ensures c.if-is_opposite.true bit on)
