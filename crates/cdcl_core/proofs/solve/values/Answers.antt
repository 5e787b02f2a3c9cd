use Rattle.std.proofs.Common.{length, ap, [], ◌∷◌, length-append, arith}
use Rattle.cdcl_core.proofs.Searching.{values_next}
use Rattle.cdcl_core.proofs.solve.values.Goals as goal

pub loop-v-preserved : goal.loop-v-preserved
loop-v-preserved c = record {
  width = let more = ap length c.in_ok-push.ensures.ok in let width = c.loop-v.invariant.width in omega (arith, length-append c.loop-v.bits (c.is_true.result ∷ []));
  each =
      values_next c.args.trail.now.literals c.loop-v.bits c.push.new.self c.loop-v.v c.of.result c.is_true.result c.loop-v.invariant.width c.loop-v.invariant.each c.of.ensures.value
      c.is_true.ensures c.in_ok-push.ensures.ok;
}
