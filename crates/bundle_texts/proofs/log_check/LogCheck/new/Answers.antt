use Rattle.std.proofs.Common.{length, ap, arith}
use Rattle.cnf_core.specs.LratReads.{LogRead}
use Rattle.bundle_texts.specs.LogJudged.{HasTaken}
use Rattle.bundle_texts.proofs.LogChecks.{starts_sound}
use Rattle.bundle_texts.proofs.log_check.LogCheck.new.Goals as goal

pub invariant_of-result : goal.invariant_of-result
invariant_of-result g c = (
  starts_sound (HasTaken g.L.ItemSink.holds) c.args.formula.now.clauses c.new.result _ c.new.ensures
      (record { checked = c.in_ok-new.ensures.stands; kept = c.empty.ensures }),
  omega (arith, ap (λ (v : LogRead). length v.text) c.new.ensures),
)
