use Rattle.std.proofs.Common.{arith}
use Rattle.cdcl_core.proofs.Marking.{marking_own, marking_set, marking_done}
use Rattle.cdcl_core.proofs.resolution.mark_others.Goals as goal
use Rattle.cdcl_core.proofs.resolution.mark_others.Goals.{then-not-is, else-not-is}

pub loop-literal-preserved : goal.loop-literal-preserved
loop-literal-preserved c = elim c.if-not-is.branch [
  | then-not-is w ↦
      rw (w.marks-is, w.set.ensures) (marking_set c.args.trail.now.literals c.args.marks.now c.loop-literal.marks c.args.clause.now c.args.own c.args.bound c.loop-literal.literal-index
      c.literal-item.result c.is.result w.place.result
      c.consistent.ensures.consistent c.requires.marks c.loop-literal.invariant (omega arith) c.literal-item.is c.requires.others c.is.ensures w.if-not-is.true w.place.ensures.within
      w.place.ensures.is)
  | else-not-is w ↦
      rw w.marks-is (marking_own c.args.trail.now.literals c.args.marks.now c.loop-literal.marks c.args.clause.now c.args.own c.args.bound c.loop-literal.literal-index c.literal-item.result
      c.is.result
      c.loop-literal.invariant (omega arith) c.literal-item.is c.is.ensures w.if-not-is.false)
]

pub returns : goal.returns
returns c = record {
  same_length = c.loop-literal.invariant.same_length;
  kept = c.loop-literal.invariant.kept;
  below = c.loop-literal.invariant.below;
  marked = marking_done c.args.trail.now.literals c.args.marks.now c.loop-literal.marks c.args.clause.now c.args.own c.args.bound c.loop-literal.literal-index c.loop-literal.invariant (omega arith);
}
