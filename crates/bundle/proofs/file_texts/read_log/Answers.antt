use Rattle.std.proofs.Common.{ap, subst, sym, refl, inl, ◌∙◌}
use Rattle.std.proofs.lemmas.Result.{err_from_is_err_and}
use Rattle.proof_semantics.specs.Formula.{Formula}
use Rattle.file_reading.specs.Refused.{FileUnread}
use Rattle.bundle_texts.specs.TextCheck.{TextCheck}
use Rattle.bundle_texts.specs.LogJudged.{IsLogIn}
use Rattle.bundle_texts.proofs.LogChecks.{of_refutation}
use Rattle.bundle.specs.Judging.{TextUnread}
use Rattle.bundle.proofs.FileTexts.{FilesStay-same}
use Rattle.bundle.proofs.ToldAnswers.{text_read, text_unread}
use Rattle.bundle.proofs.file_texts.read_log.Goals as goal

pub returns-in_err-check-clause-err : goal.returns-in_err-check-clause-err
returns-in_err-check-clause-err g c =
    let p = err_from_is_err_and c.from_residual.result c.from_residual.ensures.1 in
    let old = g.F.Files.told c.args.files.now in
    rw p.1 (subst (TextUnread old old c.args.name.now) (sym p.2) (FilesStay-same old c.args.name.now))

pub returns-in_err-read_file-clause-err : goal.returns-in_err-read_file-clause-err
returns-in_err-read_file-clause-err g c =
    let p = err_from_is_err_and c.from_residual-in_err-read_file.result c.from_residual-in_err-read_file.ensures.1 in
    let old = g.F.Files.told c.args.files.now in
    let new = g.F.Files.told c.read_file.new.files in
    let text = c.read_file.new.intake.text in
    rw p.1 (text_unread old new c.args.name.now text p.0 (subst (FileUnread old new c.args.name.now text) (sym p.2) c.in_err-read_file.ensures.err))

pub returns-in_err-finish-clause-err : goal.returns-in_err-finish-clause-err
returns-in_err-finish-clause-err g c =
    let p = err_from_is_err_and c.from_residual-in_err-finish.result c.from_residual-in_err-finish.ensures.1 in
    let old = g.F.Files.told c.args.files.now in
    let new = g.F.Files.told c.read_file.new.files in
    rw p.1 (subst (TextUnread old new c.args.name.now) (sym p.2) c.in_ok-read_file.ensures.ok.stay)

pub returns-clause-ok : goal.returns-clause-ok
returns-clause-ok g c =
    let holds = g.L.ItemSink.holds in
    let log = c.in_ok-finish.field-0 in
    let formula = c.in_ok-read_file.ensures.aim ∙ ap (λ (v : TextCheck). v.formula) c.in_ok-check.ensures in
    text_read (IsLogIn holds c.args.formula.now.clauses log) c.in_ok-read_file.ensures.ok
    (λ content wanted. subst (λ (f : Formula). IsLogIn holds f.clauses log content) formula (c.in_ok-finish.ensures content wanted))

-- the text that was taken is one of which all is wanted
pub returns-clause-refutes : goal.returns-clause-refutes
returns-clause-refutes g c =
    let holds = g.L.ItemSink.holds in
    let log = c.in_ok-finish.field-0 in
    let text = c.read_file.new.intake.text in
    let formula = c.in_ok-read_file.ensures.aim ∙ ap (λ (v : TextCheck). v.formula) c.in_ok-check.ensures in
    of_refutation holds c.args.formula.now.clauses log text (subst (λ (f : Formula). IsLogIn holds f.clauses log text) formula (c.in_ok-finish.ensures text (inl refl)))
