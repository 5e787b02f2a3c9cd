use Rattle.std.proofs.Common.{Some, None, sym, subst}
use Rattle.std.proofs.lemmas.Result.{err_from_is_err_and}
use Rattle.semantics.specs.Texts.{Bytes}
use Rattle.job_semantics.specs.declared.ending.Ending.TheVariants as file
use Rattle.job_semantics.specs.declared.certificate_clause.Clause.TheVariants as clause
use Rattle.bundle_texts.specs.Reading.{report_read}
use Rattle.std.specs.Prelude.{IfSome}
use Rattle.bundle.specs.Loading.{of_stem}
use Rattle.bundle.specs.Judging.{claimed_by, TextRead, TextUnread, FormulaKnown}
use Rattle.proof_semantics.specs.Formula.{Formula}
use Rattle.bundle_texts.specs.LogJudged.{IsLogIn, IsOfRefutation}
use Rattle.bundle.specs.declared.judged.Judged.TheVariants.{Good}
use Rattle.bundle.proofs.JudgedTexts.{no_refutation, known_log, certificate_of, log_needed}
use Rattle.bundle.proofs.ToldAnswers.{answers_unread, answers_now, answers_failing}
use Rattle.bundle.proofs.judging.check_log.Goals as goal

pub returns-in_err-log : goal.returns-in_err-log
returns-in_err-log g c =
    let claimed = c.args.claimed.now in
    let claim = claimed.claim in
    let contents = c.args.contents.now in
    let metric = claim.metric in
    let r = report_read metric claim.bound contents.report.now in
    let K = FormulaKnown (claimed_by claimed) r contents.is_shown in
    let old = g.F.Files.told c.args.files.now in
    let new = g.F.Files.told c.read_log.new.files in
    let p = err_from_is_err_and c.from_residual.result c.from_residual.ensures.1 in
    rw p.1
    (answers_unread g.L.ItemSink.holds (of_stem claim claimed.nets.now.exact claimed.stem.now) old new file.Log K p.0
    (subst (λ n. TextUnread old new n p.0) c.name.ensures (subst (TextUnread old new c.name.result.now) (sym p.2) c.in_err-log.ensures.err))
    (λ texts known. log_needed claim claimed.nets.now.exact texts claimed.nets.now.approx r contents.is_shown known))

pub returns-in_default : goal.returns-in_default
returns-in_default g c =
    let claimed = c.args.claimed.now in
    let claim = claimed.claim in
    let contents = c.args.contents.now in
    let metric = claim.metric in
    let r = report_read metric claim.bound contents.report.now in
    let K = FormulaKnown (claimed_by claimed) r contents.is_shown in
    let holds = g.L.ItemSink.holds in
    let old = g.F.Files.told c.args.files.now in
    let new = g.F.Files.told c.read_log.new.files in
    let Q = λ (content : Bytes). IsLogIn holds c.args.formula.clauses None content in
    let read = subst (λ n. TextRead old new n Q) c.name.ensures (subst (λ o. TextRead old new c.name.result.now (IsLogIn holds c.args.formula.clauses o)) c.in_default.is c.in_ok-log.ensures.ok) in
    answers_failing holds (of_stem claim claimed.nets.now.exact claimed.stem.now) old new file.Log Q K clause.Log read
    (λ texts known. log_needed claim claimed.nets.now.exact texts claimed.nets.now.approx r contents.is_shown known)
    (λ texts known none. no_refutation claim claimed.nets.now.exact texts claimed.nets.now.approx r contents.is_shown known
    (subst (λ (f : Formula). IsLogIn holds f.clauses None (texts file.Log)) c.requires.formula none))

pub returns-in-None : goal.returns-in-None
returns-in-None g c =
    let claimed = c.args.claimed.now in
    let claim = claimed.claim in
    let contents = c.args.contents.now in
    let metric = claim.metric in
    let r = report_read metric claim.bound contents.report.now in
    let K = FormulaKnown (claimed_by claimed) r contents.is_shown in
    let holds = g.L.ItemSink.holds in
    let old = g.F.Files.told c.args.files.now in
    let new = g.F.Files.told c.read_log.new.files in
    let Q = λ (content : Bytes). IsLogIn holds c.args.formula.clauses (Some c.in-Some.log) content in
    let read = subst (λ n. TextRead old new n Q) c.name.ensures (subst (λ o. TextRead old new c.name.result.now (IsLogIn holds c.args.formula.clauses o)) c.in-Some.is c.in_ok-log.ensures.ok) in
    answers_now holds (of_stem claim claimed.nets.now.exact claimed.stem.now) old new file.Log Q K (Good c.args.formula c.in-Some.log) read
    (λ texts known. log_needed claim claimed.nets.now.exact texts claimed.nets.now.approx r contents.is_shown known)
    (subst (λ o. IfSome o (IsOfRefutation holds c.args.formula.clauses)) c.in-Some.is c.in_ok-log.ensures.refutes)
    (λ texts known found.
    certificate_of claim claimed.nets.now.exact texts claimed.nets.now.approx r contents.is_shown holds known c.args.formula c.requires.formula c.in-Some.log found
    (c.in-None.ensures texts
    (known_log claim claimed.nets.now.exact texts claimed.nets.now.approx r contents.is_shown holds known c.args.formula c.requires.formula c.in-Some.log found)))

pub returns-in-Some-check_counts : goal.returns-in-Some-check_counts
returns-in-Some-check_counts g c =
    let claimed = c.args.claimed.now in
    let claim = claimed.claim in
    let contents = c.args.contents.now in
    let metric = claim.metric in
    let r = report_read metric claim.bound contents.report.now in
    let K = FormulaKnown (claimed_by claimed) r contents.is_shown in
    let holds = g.L.ItemSink.holds in
    let old = g.F.Files.told c.args.files.now in
    let new = g.F.Files.told c.read_log.new.files in
    let Q = λ (content : Bytes). IsLogIn holds c.args.formula.clauses (Some c.in-Some.log) content in
    let read = subst (λ n. TextRead old new n Q) c.name.ensures (subst (λ o. TextRead old new c.name.result.now (IsLogIn holds c.args.formula.clauses o)) c.in-Some.is c.in_ok-log.ensures.ok) in
    answers_failing holds (of_stem claim claimed.nets.now.exact claimed.stem.now) old new file.Log Q K c.in-Some-check_counts.clause read
    (λ texts known. log_needed claim claimed.nets.now.exact texts claimed.nets.now.approx r contents.is_shown known)
    (λ texts known found.
    c.in-Some-check_counts.ensures texts
    (known_log claim claimed.nets.now.exact texts claimed.nets.now.approx r contents.is_shown holds known c.args.formula c.requires.formula c.in-Some.log
    found))
