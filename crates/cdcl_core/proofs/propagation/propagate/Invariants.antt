use Rattle.std.proofs.Common.{◌-◌, ◌+◌}
use Rattle.cdcl_core.proofs.Handled.{IsHandledSoFar}
use Rattle.cdcl_core.proofs.propagation.propagate.Given as goal

abbrev pub invariant-entries : goal.invariant-entries
invariant-entries l = IsHandledSoFar l.clauses.list l.fn.trail l.trail l.watches

abbrev pub decreases-entries : goal.decreases-entries
decreases-entries l = (l.trail.variables + 2) - l.watches.handled
