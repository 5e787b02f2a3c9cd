use Rattle.std.proofs.Common.{sym, ap, subst, ◌∙◌, arith}
use Rattle.std.proofs.lemmas.Result.{err_from_is_err_and}
use Rattle.semantics.specs.Texts.{Bytes}
use Rattle.semantics.specs.Net.{input_count}
use Rattle.job_semantics.specs.declared.ending.Ending.TheVariants as file
use Rattle.job_semantics.specs.declared.certificate_clause.Clause.TheVariants as clause
use Rattle.bundle_texts.specs.Reading.{report_read}
use Rattle.bundle_texts.specs.FilesRead.{IsReportIn}
use Rattle.bundle.specs.Loading.{of_stem}
use Rattle.bundle.specs.Judging.{claimed_by, TextRead, TextUnread, NetKnown, ReportKnown}
use Rattle.std.proofs.Common.{Some, None}
use Rattle.job_semantics.specs.Certificate.{IsReportText}
use Rattle.bundle.proofs.JudgedTexts.{no_report, above_bound, report_needed}
use Rattle.bundle.proofs.ToldAnswers.{answers_unread, answers_failing, answers_later}
use Rattle.bundle.proofs.judging.check_report.Goals as goal

pub returns-in_err-report : goal.returns-in_err-report
returns-in_err-report g c =
    let claimed = c.args.claimed.now in
    let claim = claimed.claim in
    let N = claimed.nets.now.exact in
    let metric = claim.metric in
    let M = claimed.nets.now.approx in
    let K = NetKnown N M in
    let inputs = c.inputs-inputs.result in
    let old = g.F.Files.told c.args.files.now in
    let new = g.F.Files.told c.read_report_file.new.files in
    let p = err_from_is_err_and c.from_residual.result c.from_residual.ensures.1 in
    rw p.1
    (answers_unread g.L.ItemSink.holds (of_stem claim N claimed.stem.now) old new file.Report K p.0
    (subst (λ n. TextUnread old new n p.0) c.name-name.ensures (subst (TextUnread old new c.name-name.result.now) (sym p.2) c.in_err-report.ensures.err))
    (λ texts known. report_needed claim N texts M known))

pub returns-in_default : goal.returns-in_default
returns-in_default g c =
    let claimed = c.args.claimed.now in
    let claim = claimed.claim in
    let N = claimed.nets.now.exact in
    let metric = claim.metric in
    let M = claimed.nets.now.approx in
    let K = NetKnown N M in
    let inputs = c.inputs-inputs.result in
    let old = g.F.Files.told c.args.files.now in
    let new = g.F.Files.told c.read_report_file.new.files in
    let Q = λ (content : Bytes). IsReportIn inputs metric claim.bound None content in
    let was =
    subst (λ n. TextRead old new n Q) c.name-name.ensures
    (subst (λ o. TextRead old new c.name-name.result.now (IsReportIn inputs metric claim.bound o)) c.in_default.is c.in_ok-report.ensures.ok) in
    answers_failing g.L.ItemSink.holds (of_stem claim N claimed.stem.now) old new file.Report Q K clause.ReportForm was
    (λ texts known. report_needed claim N texts M known)
    (λ texts known none. no_report claim N texts M known
    (λ r is. none r (subst (λ k. IsReportText k metric claim.bound (texts file.Report) r) (sym (c.inputs-inputs.ensures.value ∙ ap input_count c.exact.ensures.value)) is)))

pub returns-then-report-claim : goal.returns-then-report-claim
returns-then-report-claim g c =
    let claimed = c.args.claimed.now in
    let claim = claimed.claim in
    let N = claimed.nets.now.exact in
    let metric = claim.metric in
    let M = claimed.nets.now.approx in
    let K = NetKnown N M in
    let inputs = c.inputs-inputs.result in
    let old = g.F.Files.told c.args.files.now in
    let new = g.F.Files.told c.read_report_file.new.files in
    let read = c.in-Some.report in
    let r = report_read metric claim.bound read in
    let Q = λ (content : Bytes). IsReportIn inputs metric claim.bound (Some read) content in
    let was =
    subst (λ n. TextRead old new n Q) c.name-name.ensures
    (subst (λ o. TextRead old new c.name-name.result.now (IsReportIn inputs metric claim.bound o)) c.in-Some.is c.in_ok-report.ensures.ok) in
    answers_failing g.L.ItemSink.holds (of_stem claim N claimed.stem.now) old new file.Report Q K clause.MaximumWithin was
    (λ texts known. report_needed claim N texts M known)
    (λ texts known is. above_bound claim N texts M r known
    (subst (λ k. IsReportText k metric claim.bound (texts file.Report) r) (c.inputs-inputs.ensures.value ∙ ap input_count c.exact.ensures.value) is)
    (λ within. omega (arith, within, c.if-report-claim.true)))

pub returns : goal.returns
returns g c =
    let claimed = c.args.claimed.now in
    let claim = claimed.claim in
    let N = claimed.nets.now.exact in
    let metric = claim.metric in
    let M = claimed.nets.now.approx in
    let K = NetKnown N M in
    let inputs = c.inputs-inputs.result in
    let old = g.F.Files.told c.args.files.now in
    let mid = g.F.Files.told c.read_report_file.new.files in
    let new = g.F.Files.told c.check_witness.new.files in
    let read = c.in-Some.report in
    let r = report_read metric claim.bound read in
    let Q = λ (content : Bytes). IsReportIn inputs metric claim.bound (Some read) content in
    let was =
    subst (λ n. TextRead old mid n Q) c.name-name.ensures
    (subst (λ o. TextRead old mid c.name-name.result.now (IsReportIn inputs metric claim.bound o)) c.in-Some.is c.in_ok-report.ensures.ok) in
    answers_later g.L.ItemSink.holds (of_stem claim N claimed.stem.now) old mid new file.Report Q K (ReportKnown (claimed_by claimed) r) was
    (λ texts known. report_needed claim N texts M known)
    (λ texts known is.
    record {
      net = known;
      report = subst (λ k. IsReportText k metric claim.bound (texts file.Report) r) (c.inputs-inputs.ensures.value ∙ ap input_count c.exact.ensures.value) is;
      within = omega (arith, c.if-report-claim.false);
    })
    c.check_witness.result c.check_witness.ensures
