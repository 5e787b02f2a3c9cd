use Rattle.std.proofs.Common.{[], ◌∷◌, ◌++◌, subst, sym}
use Rattle.bundle_texts.specs.LogTold.{IsNeverSound}
use Rattle.bundle_texts.proofs.LogChecks.{step_refused}
use Rattle.bundle_texts.proofs.judge.is_accepted.Goals as goal

pub returns-in_default : goal.returns-in_default
returns-in_default c clauses log h =
    subst (λ item. IsNeverSound clauses (log ++ item ∷ [])) (sym c.in-Add.is)
    (step_refused c.step.result c.args.checker.now c.in-Add.step c.in-Err.refusal c.step.ensures.answer c.in-Err.is c.in_default.not-OutOfMemory clauses log h)
