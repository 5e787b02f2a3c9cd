use Rattle.std.proofs.Common.{◌-◌, length}
use Rattle.cdcl_core.specs.Watches.{list_at}
use Rattle.cdcl_core.proofs.Handled.{IsSoFar}
use Rattle.cdcl_core.proofs.propagation.handle.Given as goal

abbrev pub invariant-along : goal.invariant-along
invariant-along l = IsSoFar l.clauses.list l.fn.trail l.trail l.fn.watches l.watches l.x l.at

abbrev pub decreases-along : goal.decreases-along
decreases-along l = length (list_at l.watches.lists l.x) - l.at
