use Rattle.std.proofs.Common.{◌≤◌, ◌-◌}
use Rattle.cdcl_core.specs.Outcomes.{IsOpenBehind}
use Rattle.cdcl_core.proofs.forgetting.solve_forgetting.Given as goal

abbrev pub invariant-rounds : goal.invariant-rounds
invariant-rounds g l = record {
  behind : IsOpenBehind l.cnf l.fn.derived l.whole;
  within : l.spent ≤ l.limit;
  some : 1 ≤ l.most;
}

abbrev pub decreases-rounds : goal.decreases-rounds
decreases-rounds g l = l.limit - l.spent
