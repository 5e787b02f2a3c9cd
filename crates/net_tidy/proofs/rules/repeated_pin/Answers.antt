use Rattle.std.proofs.Common.{◌∙◌, sym}
use Rattle.net_tidy.proofs.First.{first_from_next}
use Rattle.net_tidy.proofs.rules.repeated_pin.Goals as goal

pub loop-q-preserved : goal.loop-q-preserved
loop-q-preserved c = first_from_next _ c.loop-q.q _ c.loop-q-test.true (sym c.has.ensures ∙ c.if-has.false) ∙ c.loop-q.invariant
