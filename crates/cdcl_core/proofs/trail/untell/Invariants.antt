use Rattle.std.proofs.Common.{◌≡◌, ◌≤◌, ◌-◌, min, take, length}
use Rattle.cdcl_core.specs.Placed.{AreTold}
use Rattle.cdcl_core.proofs.trail.untell.Given as goal

abbrev pub invariant-down : goal.invariant-down
invariant-down l = record {
  order : min l.start (length l.literals) ≤ l.end;
  within : l.end ≤ length l.literals;
  told : AreTold l.told.items (take l.end l.literals);
  wide : length l.told.items ≡ length l.initial.told.items;
}

abbrev pub decreases-down : goal.decreases-down
decreases-down l = l.end - l.start
