use Rattle.std.proofs.Common.{ℕ, [], Some, Ok, Err, sym, ap, ◌∙◌, refl}
use Rattle.std.proofs.lemmas.Result.{err_from_is_err_and, IfOk-weaker, IfErr-weaker}
use Rattle.solve_cnf.specs.Reading.{Refusal}
use Rattle.solve_cnf.specs.Slices.{line_texts}
use Rattle.text_words.specs.Slices.{texts}
use Rattle.solve_cnf.specs.FormulaDraft.{clauses_with}
use Rattle.solve_cnf.proofs.Formulas.{formula_read, counts_read}
use Rattle.solve_cnf.proofs.reading.read_formula.Goals as goal

pub returns-in_err-take_lines-clause-err : goal.returns-in_err-take_lines-clause-err
returns-in_err-take_lines-clause-err c =
    let p = err_from_is_err_and c.from_residual-in_err-take_lines.result c.from_residual-in_err-take_lines.ensures.1 in
    rw (p.1, p.2)
    (λ (refusal : Refusal) tells. formula_read c.args.text.now c.as_slice.result.now c.in-Some.first.now c.in-Some.rest.now c.deref.result.now c.in-Some-header_of.header c.new-draft.result
    c.new-draft.result.variables (Err refusal) (Err refusal)
    (ap line_texts c.as_slice.ensures.value ∙ c.in_ok-lines.ensures.texts) c.in-Some.ensures.cases.0 (ap texts c.deref.ensures.value ∙ c.in_ok-words.ensures) c.in-Some-header_of.ensures.value
    (c.new-draft.ensures ∙ ap (λ h. record { variables = h.variables; ended = []; begun = [] }) c.header.view_is) refl (sym (c.in_err-take_lines.ensures.err refusal tells)) (λ count is. refl))

pub returns-clause-ok : goal.returns-clause-ok
returns-clause-ok c =
    IfOk-weaker c.finish.result _ _
    (λ cnf made. formula_read c.args.text.now c.as_slice.result.now c.in-Some.first.now c.in-Some.rest.now c.deref.result.now c.in-Some-header_of.header c.new-draft.result
    c.take_lines.new.self.variables (clauses_with c.take_lines.new.self []) (Ok cnf)
    (ap line_texts c.as_slice.ensures.value ∙ c.in_ok-lines.ensures.texts) c.in-Some.ensures.cases.0 (ap texts c.deref.ensures.value ∙ c.in_ok-words.ensures) c.in-Some-header_of.ensures.value
    (c.new-draft.ensures ∙ ap (λ h. record { variables = h.variables; ended = []; begun = [] }) c.header.view_is) c.in_ok-take_lines.ensures.variables c.in_ok-take_lines.ensures.ok
    (λ count is. made count (ap (λ h. h.clauses) c.header.view_is ∙ is)))
    c.finish.ensures.ok

pub returns-clause-err : goal.returns-clause-err
returns-clause-err c =
    IfErr-weaker c.finish.result _ _
    (λ told made refusal tells. formula_read c.args.text.now c.as_slice.result.now c.in-Some.first.now c.in-Some.rest.now c.deref.result.now c.in-Some-header_of.header c.new-draft.result
    c.take_lines.new.self.variables (clauses_with c.take_lines.new.self []) (Err refusal)
    (ap line_texts c.as_slice.ensures.value ∙ c.in_ok-lines.ensures.texts) c.in-Some.ensures.cases.0 (ap texts c.deref.ensures.value ∙ c.in_ok-words.ensures) c.in-Some-header_of.ensures.value
    (c.new-draft.ensures ∙ ap (λ h. record { variables = h.variables; ended = []; begun = [] }) c.header.view_is) c.in_ok-take_lines.ensures.variables c.in_ok-take_lines.ensures.ok
    (λ count is. made count (ap (λ h. h.clauses) c.header.view_is ∙ is) refusal tells))
    c.finish.ensures.err

pub returns-clause-counts : goal.returns-clause-counts
returns-clause-counts c =
    IfErr-weaker c.finish.result _ _
    (λ told made said found tells. counts_read c.args.text.now c.as_slice.result.now c.in-Some.first.now c.in-Some.rest.now c.deref.result.now c.in-Some-header_of.header c.new-draft.result
    c.take_lines.new.self.variables (clauses_with c.take_lines.new.self []) (Some (said, found))
    (ap line_texts c.as_slice.ensures.value ∙ c.in_ok-lines.ensures.texts) c.in-Some.ensures.cases.0 (ap texts c.deref.ensures.value ∙ c.in_ok-words.ensures) c.in-Some-header_of.ensures.value
    (c.new-draft.ensures ∙ ap (λ h. record { variables = h.variables; ended = []; begun = [] }) c.header.view_is) c.in_ok-take_lines.ensures.variables c.in_ok-take_lines.ensures.ok
    (λ count is. made count (ap (λ h. h.clauses) c.header.view_is ∙ is) said found tells))
    c.finish.ensures.counts
