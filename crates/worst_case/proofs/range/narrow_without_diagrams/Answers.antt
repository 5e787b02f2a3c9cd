use Rattle.std.proofs.Common.{arith}
use Rattle.worst_case.proofs.range.narrow_without_diagrams.Goals as goal

pub returns-then-branch-clause-narrowed : goal.returns-then-branch-clause-narrowed
returns-then-branch-clause-narrowed g c = omega (arith, c.in_ok-close_by_every_vector.ensures.closed c.if-branch.true, c.requires.open)
