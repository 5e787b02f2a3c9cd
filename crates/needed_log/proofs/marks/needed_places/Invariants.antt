use Rattle.std.proofs.Common.{◌-◌, ◌≤◌, length}
use Rattle.needed_log.specs.Marks.{AreMarked}
use Rattle.needed_log.proofs.marks.needed_places.Given as goal

abbrev pub invariant-loop-place : goal.invariant-loop-place
invariant-loop-place l = record {
  from : l.first ≤ l.place;
  within : l.place ≤ length l.items;
  marked : AreMarked l.clauses l.first l.place l.items l.marks.items;
}

abbrev pub decreases-loop-place : goal.decreases-loop-place
decreases-loop-place l = l.place - l.first
