use Rattle.std.proofs.Common.{arith}
use Rattle.cdcl_core.proofs.LastOther.{step_own, step_other}
use Rattle.cdcl_core.proofs.jump.last_other.Goals as goal
use Rattle.cdcl_core.proofs.jump.last_other.Goals.{then-not-is, else-not-is}

pub loop-literal-preserved : goal.loop-literal-preserved
loop-literal-preserved c = elim c.if-not-is.branch [
  | then-not-is w ↦
      step_other c.args.trail.now.literals c.args.start c.args.own c.args.clause.now c.loop-literal.literal-index c.loop-literal.last c.if-not-is.last c.literal-item.result c.is.result w.place.result
      w.later.result
      c.consistent.ensures.consistent c.requires (omega arith) c.literal-item.is c.is.ensures w.if-not-is.true w.place.ensures.within w.place.ensures.is w.later.ensures w.last-is
      c.loop-literal.invariant
  | else-not-is w ↦
      step_own c.args.trail.now.literals c.args.start c.args.own c.args.clause.now c.loop-literal.literal-index c.loop-literal.last c.if-not-is.last c.literal-item.result c.is.result
      (omega arith) c.literal-item.is c.is.ensures w.if-not-is.false w.last-is c.loop-literal.invariant
]
