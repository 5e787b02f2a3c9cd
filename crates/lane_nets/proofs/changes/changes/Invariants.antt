use Rattle.std.proofs.Common.{◌≡◌, length}
use Rattle.lane_nets.specs.Changes.{AreChanges}
use Rattle.lane_nets.proofs.changes.changes.Given as goal

abbrev pub invariant-loop-q : goal.invariant-loop-q
invariant-loop-q l = record {
  count : length l.marks.items ≡ l.q;
  are : AreChanges l.patterns l.marks.items;
}
