use Rattle.std.proofs.Common.{◌≡◌, ap, subst, refl, inl, ◌∙◌}
use Rattle.std.proofs.lemmas.Result.{IfOk-weaker}
use Rattle.proof_semantics.specs.Formula.{Formula}
use Rattle.bundle_texts.specs.TextCheck.{TextCheck}
use Rattle.bundle_texts.specs.LogJudged.{IsLogIn}
use Rattle.worked_rows.proofs.KeptLogs.{kept_refutes}
use Rattle.worked_rows.proofs.trimmed_logs.refuting_log.Goals as goal

pub returns : goal.returns
returns c =
    let text = c.take.new.self.text in
    let formula = c.in_ok-take.ensures.aim ∙ ap (λ (v : TextCheck). v.formula) c.in_ok-check.ensures in
    IfOk-weaker c.finish.result _ _
    (λ log h. kept_refutes c.args.goal.now.clauses log text (subst (λ (f : Formula). IsLogIn (λ k l. k ≡ l) f.clauses log text) formula (h text (inl refl))))
    c.finish.ensures
