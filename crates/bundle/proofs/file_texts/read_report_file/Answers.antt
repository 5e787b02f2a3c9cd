use Rattle.std.proofs.Common.{ap, subst, sym, ◌∙◌, arith}
use Rattle.std.proofs.lemmas.Result.{err_from_is_err_and}
use Rattle.file_reading.specs.Front.{FrontValue}
use Rattle.file_reading.specs.Refused.{FileUnread}
use Rattle.bundle_texts.specs.FilesRead.{IsReportIn}
use Rattle.bundle.specs.Judging.{TextUnread}
use Rattle.bundle.proofs.FileTexts.{report_in, report_width}
use Rattle.bundle_texts.proofs.ReportSizes.{report_front}
use Rattle.bundle.proofs.ToldAnswers.{text_read, text_unread}
use Rattle.bundle.proofs.file_texts.read_report_file.Goals as goal

pub returns-in_err-read_file-clause-err : goal.returns-in_err-read_file-clause-err
returns-in_err-read_file-clause-err g c =
    let p = err_from_is_err_and c.from_residual.result c.from_residual.ensures.1 in
    let old = g.F.Files.told c.args.files.now in
    let new = g.F.Files.told c.read_file.new.files in
    let text = c.read_file.new.intake.bytes in
    rw p.1 (text_unread old new c.args.name.now text p.0 (subst (FileUnread old new c.args.name.now text) (sym p.2) c.in_err-read_file.ensures.err))

pub returns-in_err-read_report-clause-err : goal.returns-in_err-read_report-clause-err
returns-in_err-read_report-clause-err g c =
    let p = err_from_is_err_and c.from_residual-in_err-read_report.result c.from_residual-in_err-read_report.ensures.1 in
    let old = g.F.Files.told c.args.files.now in
    let new = g.F.Files.told c.read_file.new.files in
    rw p.1 (subst (TextUnread old new c.args.name.now) (sym p.2) c.in_ok-read_file.ensures.ok.stay)

pub returns-clause-ok : goal.returns-clause-ok
returns-clause-ok g c =
    let front = c.read_file.new.intake in
    let limit = c.in_ok-read_file.ensures.aim ∙ ap (λ (v : FrontValue). v.limit) c.new-front.ensures in
    let inputs = c.args.inputs in
    let metric = c.args.metric in
    let bound = c.args.bound in
    let found = c.in_ok-read_report.field-0 in
    let here = subst (IsReportIn inputs metric bound found) c.bytes.ensures.value (report_in inputs metric bound c.bytes.result.now found c.in_ok-read_report.ensures.read) in
    text_read (IsReportIn inputs metric bound found) c.in_ok-read_file.ensures.ok
    (λ content wanted. report_front inputs metric bound c.requires c.read_report.ensures.width (omega arith) content front.bytes front.limit found limit wanted here)

pub returns-clause-width : goal.returns-clause-width
returns-clause-width g c = report_width c.args.inputs c.args.metric c.args.bound c.bytes.result.now c.in_ok-read_report.field-0 c.in_ok-read_report.ensures.read
