use Rattle.std.proofs.Common.{arith}
use Rattle.bdd_nets.proofs.Signals.{variables_more, variables_all}
use Rattle.bdd_nets.proofs.nets.variable_diagrams.Goals as goal

pub loop-i-preserved : goal.loop-i-preserved
loop-i-preserved c =
    variables_more _ _ _ _ _ c.loop-i.i _ c.loop-i.invariant c.in_ok-fs-2.ensures.grows c.in_ok-fs-2.ensures.ok (omega arith)

pub returns-clause-variables : goal.returns-clause-variables
returns-clause-variables c = variables_all _ _ _ _ _ c.loop-i.invariant c.loop-i-test.false
