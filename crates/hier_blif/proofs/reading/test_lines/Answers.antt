use Rattle.std.proofs.Common.{◌≡◌, false, ap, sym, subst, ◌∙◌, None}
use Rattle.std.proofs.lemmas.Result.{err_from_is_err_and, on_ok_weaker}
use Rattle.blif_semantics.specs.Reading.{wrong_line}
use Rattle.hierarchy_semantics.specs.Models.{hierarchy_of}
use Rattle.hierarchy_semantics.specs.ModelLines.{first_wrong}
use Rattle.hierarchy_semantics.specs.Refusals.{line, hier_refusal}
use Rattle.hier_blif.specs.Refusals.{TellsOne}
use Rattle.hier_blif.specs.Judging.{first_wrong_in}
use Rattle.hier_blif.specs.Tested.{lines_refusal}
use Rattle.hier_blif.proofs.Read.{passed_on, tells-first, tells-rest, none-both, if_err_weaker}
use Rattle.hier_faults.specs.Named.{AreNamed}
use Rattle.hier_blif.proofs.NamedLines.{read-named}
use Rattle.hier_blif.proofs.Judged.{first_wrong-in, judged_told}
use Rattle.hier_blif.proofs.reading.test_lines.Goals as goal

pub returns-in_err-judge-clause-err : goal.returns-in_err-judge-clause-err
returns-in_err-judge-clause-err c =
    passed_on _ _ (λ told. TellsOne told (lines_refusal c.args.lines.now)) (err_from_is_err_and c.from_residual-in_err-judge.result c.from_residual-in_err-judge.ensures.1)
    (tells-first _ (first_wrong c.args.lines.now) (λ w. line (wrong_line w.line w.wrong)) (hier_refusal (hierarchy_of c.args.lines.now))
    (judged_told _ c.deref.result.now c.args.lines.now (c.deref.ensures.value ∙ c.in_ok-statements.ensures) c.in_err-judge.ensures.err))

pub returns-clause-ok : goal.returns-clause-ok
returns-clause-ok c =
    let lines = c.args.lines.now in
    let right : first_wrong lines ≡ None = sym (first_wrong-in lines) ∙ ap (λ l. first_wrong_in false None l) (sym (c.deref.ensures.value ∙ c.in_ok-statements.ensures)) ∙ c.in_ok-judge.ensures.ok in
    let same = c.deref-3.ensures.value ∙ c.in_ok-models.ensures ∙ ap hierarchy_of (c.deref-2.ensures.value ∙ c.in_ok-statements.ensures) in
    on_ok_weaker _ (λ none. none-both (first_wrong lines) (λ w. line (wrong_line w.line w.wrong)) (hier_refusal (hierarchy_of lines)) right (ap hier_refusal (sym same) ∙ none)) c.refuse.ensures.ok

pub returns-clause-err : goal.returns-clause-err
returns-clause-err c =
    let lines = c.args.lines.now in
    let right : first_wrong lines ≡ None = sym (first_wrong-in lines) ∙ ap (λ l. first_wrong_in false None l) (sym (c.deref.ensures.value ∙ c.in_ok-statements.ensures)) ∙ c.in_ok-judge.ensures.ok in
    let same = c.deref-3.ensures.value ∙ c.in_ok-models.ensures ∙ ap hierarchy_of (c.deref-2.ensures.value ∙ c.in_ok-statements.ensures) in
    if_err_weaker _ (λ told is. tells-rest told (first_wrong lines) (λ w. line (wrong_line w.line w.wrong)) (hier_refusal (hierarchy_of lines)) right
    (subst (λ h. TellsOne told (hier_refusal h)) same is)) c.refuse.ensures.err

pub refuse-requires : goal.refuse-requires
refuse-requires c =
    let lines = c.args.lines.now in
    let right : first_wrong lines ≡ None = sym (first_wrong-in lines) ∙ ap (λ l. first_wrong_in false None l) (sym (c.deref.ensures.value ∙ c.in_ok-statements.ensures)) ∙ c.in_ok-judge.ensures.ok in
    let same = c.deref-3.ensures.value ∙ c.in_ok-models.ensures ∙ ap hierarchy_of (c.deref-2.ensures.value ∙ c.in_ok-statements.ensures) in
    subst AreNamed (sym same) (read-named lines right)
