use Rattle.std.proofs.Common.{◌≡◌, [], replicate}
use Rattle.care_masks.proofs.growing.empty_rows.Given as goal

abbrev pub invariant-loop-t : goal.invariant-loop-t
invariant-loop-t l = l.rows.items ≡ replicate l._t []
