use Rattle.std.proofs.Common.{take, length, ◌≤◌, ◌-◌}
use Rattle.std.specs.Prelude.{All}
use Rattle.cdcl_core.proofs.trail.Trail.levels_until.Given as goal

abbrev pub invariant-up : goal.invariant-up
invariant-up l = record {
  within : l.level ≤ length l.self-inside.starts.items;
  before : All (λ s. s ≤ l.place) (take l.level l.self-inside.starts.items);
}

abbrev pub decreases-up : goal.decreases-up
decreases-up l = length l.self-inside.starts.items - l.level
