use Rattle.std.proofs.Common.{◌≡◌, reverse, ap, subst, sym, ◌∙◌}
use Rattle.std.specs.Prelude.{position}
use Rattle.std.proofs.lemmas.Result.{IfOk-weaker}
use Rattle.proof_semantics.specs.Logs.{Refutes}
use Rattle.trim_semantics.specs.Trimming.{trimmed}
use Rattle.trim_semantics.proofs.Again.{trimmed_law}
use Rattle.lrat_trim.specs.Backwards.{adds_empty_clause}
use Rattle.lrat_trim.proofs.Roots.{has_place}
use Rattle.lrat_trim.proofs.trim.trim.Goals as goal

-- the turned items are the trimmed log
is_trimmed : (c : goal.After-turned) → reverse c.in_ok-kept_backwards-in-Some.field-0.items ≡ trimmed c.args.log.now
is_trimmed c = c.in_ok-kept_backwards-in-Some.ensures ∙ ap trimmed c.as_slice-items.ensures

pub returns-in_ok-kept_backwards-in-Some-clause-trimmed : goal.returns-in_ok-kept_backwards-in-Some-clause-trimmed
returns-in_ok-kept_backwards-in-Some-clause-trimmed c =
    IfOk-weaker _ _ _ (λ short is. (trimmed_law.exactly c.args.goal.now.clauses c.args.log.now c.requires short).1 (is ∙ is_trimmed c)) c.turned.ensures

pub returns-in_ok-kept_backwards-in-Some-clause-refutes : goal.returns-in_ok-kept_backwards-in-Some-clause-refutes
returns-in_ok-kept_backwards-in-Some-clause-refutes c =
    IfOk-weaker _ _ _
    (λ short is. subst (Refutes c.args.goal.now.clauses) (sym (is ∙ is_trimmed c)) (trimmed_law.refutes c.args.goal.now.clauses c.args.log.now c.requires))
    c.turned.ensures

-- there is always a root
rooted : (c : goal.After-new) → ⊥
rooted c = has_place c.args.goal.now.clauses c.args.log.now c.requires (ap (position adds_empty_clause) (sym c.as_slice-items.ensures) ∙ sym c.in-None.ensures)

pub returns-in-None-clause-value : goal.returns-in-None-clause-value
returns-in-None-clause-value c = absurd (rooted c)

pub returns-in-None-clause-trimmed : goal.returns-in-None-clause-trimmed
returns-in-None-clause-trimmed c = absurd (rooted c)

pub returns-in-None-clause-refutes : goal.returns-in-None-clause-refutes
returns-in-None-clause-refutes c = absurd (rooted c)
