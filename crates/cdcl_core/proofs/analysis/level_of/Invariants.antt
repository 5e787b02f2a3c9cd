use Rattle.std.proofs.Common.{◌≤◌}
use Rattle.cdcl_core.proofs.analysis.level_of.Given as goal

abbrev pub invariant-down : goal.invariant-down
invariant-down l = l.found ≤ l.level

abbrev pub decreases-down : goal.decreases-down
decreases-down l = l.found
