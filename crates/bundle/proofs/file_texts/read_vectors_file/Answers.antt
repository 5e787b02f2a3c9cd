use Rattle.std.proofs.Common.{ap, subst, sym, ◌∙◌}
use Rattle.std.proofs.lemmas.Result.{err_from_is_err_and}
use Rattle.file_reading.specs.Refused.{FileUnread}
use Rattle.bundle.specs.Judging.{TextUnread}
use Rattle.bundle.specs.Shown.{AskedValue, VectorsText, AreShownIn}
use Rattle.bundle.proofs.FileTexts.{FilesStay-same}
use Rattle.bundle.proofs.ToldAnswers.{text_read, text_unread}
use Rattle.bundle.proofs.file_texts.read_vectors_file.Goals as goal

pub returns-in_err-check-clause-err : goal.returns-in_err-check-clause-err
returns-in_err-check-clause-err g c =
    let p = err_from_is_err_and c.from_residual.result c.from_residual.ensures.1 in
    let old = g.F.Files.told c.args.files.now in
    rw p.1 (subst (TextUnread old old c.args.name.now) (sym p.2) (FilesStay-same old c.args.name.now))

pub returns-in_err-read_file-clause-err : goal.returns-in_err-read_file-clause-err
returns-in_err-read_file-clause-err g c =
    let p = err_from_is_err_and c.from_residual-in_err-read_file.result c.from_residual-in_err-read_file.ensures.1 in
    let old = g.F.Files.told c.args.files.now in
    let new = g.F.Files.told c.read_file.new.files in
    let text = c.read_file.new.intake.text in
    rw p.1 (text_unread old new c.args.name.now text p.0 (subst (FileUnread old new c.args.name.now text) (sym p.2) c.in_err-read_file.ensures.err))

pub returns-in_err-finish-clause-err : goal.returns-in_err-finish-clause-err
returns-in_err-finish-clause-err g c =
    let p = err_from_is_err_and c.from_residual-in_err-finish.result c.from_residual-in_err-finish.ensures.1 in
    let old = g.F.Files.told c.args.files.now in
    let new = g.F.Files.told c.read_file.new.files in
    rw p.1 (subst (TextUnread old new c.args.name.now) (sym p.2) c.in_ok-read_file.ensures.ok.stay)

pub returns-clause-ok : goal.returns-clause-ok
returns-clause-ok g c =
    let shown = c.in_ok-finish.field-0 in
    let asked = c.in_ok-read_file.ensures.aim ∙ ap (λ (v : VectorsText). v.asked) c.in_ok-check.ensures in
    text_read (AreShownIn c.args.asked shown) c.in_ok-read_file.ensures.ok
    (λ content wanted. subst (λ (a : AskedValue). AreShownIn a shown content) asked (c.in_ok-finish.ensures content wanted))
