use Rattle.std.proofs.Common.{arith}
use Rattle.cdcl_core.proofs.Touching.{touched_none}
use Rattle.cdcl_core.proofs.trail_marks.unset_places.Goals as goal

pub returns-clause-none : goal.returns-clause-none
returns-clause-none c p = touched_none c.loop-place.places.items c.args.touched.now c.loop-place.place-index p c.loop-place.invariant.touched (omega arith)
