use Rattle.std.proofs.Common.{subst}
use Rattle.bundle_texts.specs.LogTold.{SoFar}
use Rattle.bundle_texts.specs.LogJudged.{HasTaken}
use Rattle.bundle_texts.specs.LogStanding.{StandsAt}
use Rattle.bundle_texts.proofs.log_check.LogCheckIntake.take.Goals as goal

pub invariant_of-self-in-Ok-false : goal.invariant_of-self-in-Ok-false
invariant_of-self-in-Ok-false g c =
    let holds = g.L.ItemSink.holds in
    let a = c.self.inside in
    let stands = subst (λ s. StandsAt holds s a.formula.now.clauses a.reader a.judge) c.in-Accepted.is c.self.invariant in
    subst (λ b. SoFar (HasTaken holds) b a.formula.now.clauses c.goes_on.new.reader c.goes_on.new.judge) c.in-Ok-false.field-0-test
    (c.in-Ok-false.ensures.judged a.formula.now.clauses stands.0)
