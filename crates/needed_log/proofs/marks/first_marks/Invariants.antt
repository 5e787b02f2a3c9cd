use Rattle.std.proofs.Common.{◌≡◌, ℕ, ◌<◌, length}
use Rattle.std.specs.Prelude.{◌↔◌}
use Rattle.needed_log.specs.Kept.{IsMarked}
use Rattle.needed_log.proofs.marks.first_marks.Given as goal

abbrev pub invariant-loop-place : goal.invariant-loop-place
invariant-loop-place l = record {
  count : length l.marks.items ≡ l.places;
  exactly : (k : ℕ) → k < l.places → IsMarked l.marks.items k ↔ (k < l.place);
}
