use Rattle.std.proofs.Common.{◌∙◌, sym}
use Rattle.net_tidy.proofs.First.{first_from_next}
use Rattle.net_tidy.proofs.rules.dashed_pin.Goals as goal

pub loop-q-preserved : goal.loop-q-preserved
loop-q-preserved g c = first_from_next _ c.loop-q.q c.args.pins c.loop-q-test.true (sym c.is_dashed.ensures ∙ c.if-is_dashed.false) ∙ c.loop-q.invariant
