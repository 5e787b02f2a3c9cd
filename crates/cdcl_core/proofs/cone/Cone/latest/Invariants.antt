use Rattle.std.proofs.Common.{◌≤◌}
use Rattle.cdcl_core.proofs.cone.Cone.latest.Given as goal

abbrev pub invariant-loop-signal : goal.invariant-loop-signal
invariant-loop-signal l = l.latest ≤ l.trail.variables
