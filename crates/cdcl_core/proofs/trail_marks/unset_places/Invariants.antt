use Rattle.std.proofs.Common.{◌≡◌, length}
use Rattle.cdcl_core.specs.Touched.{AreTouchedFrom}
use Rattle.cdcl_core.proofs.trail_marks.unset_places.Given as goal

abbrev pub invariant-loop-place : goal.invariant-loop-place
invariant-loop-place l = record {
  same : length l.places.items ≡ length l.fn.places.items;
  touched : AreTouchedFrom l.places.items l.touched l.place-index;
}
