use Rattle.std.proofs.Common.{below_more}
use Rattle.cdcl_core.proofs.Searching.{closed_next}
use Rattle.cdcl_core.proofs.decision.least.Goals as goal

pub loop-v-preserved : goal.loop-v-preserved
loop-v-preserved c =
    below_more _ _ c.loop-v.invariant (closed_next c.args.trail.now.literals c.loop-v.v c.of-literal.result c.of-literal.ensures.value (c.is_open.ensures.closed c.if-is_open.false))
