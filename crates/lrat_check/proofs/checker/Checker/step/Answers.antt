use Rattle.std.proofs.Common.{◌≡◌, Err, subst, rules}
use Rattle.std.specs.Prelude.{◌⊎◌, OnOk}
use Rattle.lrat_check.specs.Checker.{CheckerValue, stepped}
use Rattle.proof_semantics.specs.declared.step_refusal.StepRefusal.TheVariants.{OutOfMemory}
use Rattle.proof_semantics.specs.Logs.{step_answer}
use Rattle.lrat_check.proofs.Standing.{stands_answered}
use Rattle.lrat_check.proofs.checker.Checker.step.Goals as goal

pub returns-clause-stands : goal.returns-clause-stands
returns-clause-stands c =
    let answer : (c.hold.result ≡ Err OutOfMemory) ⊎ (c.hold.result ≡ step_answer c.args.self.now.held c.args.self.now.last c.args.s.now) = search rules in
    stands_answered c.args.self.now c.hold.new.self c.args.s.now c.hold.result answer
    (subst (λ (k : CheckerValue). OnOk c.hold.result (c.hold.new.self ≡ stepped k c.args.s.now)) c.self.view_is c.hold.ensures.ok)
