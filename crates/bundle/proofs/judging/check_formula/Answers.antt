use Rattle.std.proofs.Common.{◌≡◌, true, sym, ap, subst, ◌∙◌, Err}
use Rattle.std.specs.Prelude.{◌↔◌, IsTrue}
use Rattle.std.proofs.lemmas.Result.{err_from_is_err_and}
use Rattle.semantics.specs.Texts.{Bytes}
use Rattle.job_semantics.specs.declared.ending.Ending.TheVariants as file
use Rattle.job_semantics.specs.declared.certificate_clause.Clause.TheVariants as clause
use Rattle.bundle_texts.specs.Reading.{report_read}
use Rattle.bundle.specs.Loading.{of_stem}
use Rattle.bundle.specs.Judging.{claimed_by, TextRead, TextUnread, Answers, WitnessKnown, FormulaKnown}
use Rattle.proof_semantics.specs.Formula.{dimacs_text}
use Rattle.bundle.proofs.JudgedTexts.{other_formula, formula_needed}
use Rattle.bundle.proofs.ToldAnswers.{answers_memory, answers_unread, answers_failing, answers_later}
use Rattle.bundle.proofs.judging.check_formula.Goals as goal

pub returns-in_err-formula : goal.returns-in_err-formula
returns-in_err-formula g c =
    let claimed = c.args.claimed.now in
    let claim = claimed.claim in
    let contents = c.args.contents.now in
    let metric = claim.metric in
    let r = report_read metric claim.bound contents.report.now in
    let K = WitnessKnown (claimed_by claimed) r contents.is_shown in
    let old = g.F.Files.told c.args.files.now in
    let p = err_from_is_err_and c.from_residual.result c.from_residual.ensures.1 in
    rw p.1 (subst (λ e. Answers g.L.ItemSink.holds (of_stem claim claimed.nets.now.exact claimed.stem.now) K old old (Err e)) (sym p.2)
    (answers_memory g.L.ItemSink.holds (of_stem claim claimed.nets.now.exact claimed.stem.now) old K))

pub returns-in_err-is_formula : goal.returns-in_err-is_formula
returns-in_err-is_formula g c =
    let claimed = c.args.claimed.now in
    let claim = claimed.claim in
    let contents = c.args.contents.now in
    let metric = claim.metric in
    let r = report_read metric claim.bound contents.report.now in
    let K = WitnessKnown (claimed_by claimed) r contents.is_shown in
    let old = g.F.Files.told c.args.files.now in
    let new = g.F.Files.told c.is_formula.new.files in
    let p = err_from_is_err_and c.from_residual-in_err-is_formula.result c.from_residual-in_err-is_formula.ensures.1 in
    rw p.1
    (answers_unread g.L.ItemSink.holds (of_stem claim claimed.nets.now.exact claimed.stem.now) old new file.Formula K p.0
    (subst (λ n. TextUnread old new n p.0) c.name.ensures (subst (TextUnread old new c.name.result.now) (sym p.2) c.in_err-is_formula.ensures.err))
    (λ texts known. formula_needed claim claimed.nets.now.exact texts claimed.nets.now.approx r contents.is_shown known))

pub returns-then-not-branch : goal.returns-then-not-branch
returns-then-not-branch g c =
    let claimed = c.args.claimed.now in
    let claim = claimed.claim in
    let contents = c.args.contents.now in
    let metric = claim.metric in
    let r = report_read metric claim.bound contents.report.now in
    let K = WitnessKnown (claimed_by claimed) r contents.is_shown in
    let old = g.F.Files.told c.args.files.now in
    let new = g.F.Files.told c.is_formula.new.files in
    let yes = c.in_ok-is_formula.field-0 in
    let Q = λ (content : Bytes). IsTrue yes ↔ (content ≡ dimacs_text c.in_ok-formula.formula) in
    answers_failing g.L.ItemSink.holds (of_stem claim claimed.nets.now.exact claimed.stem.now) old new file.Formula Q K clause.Formula
    (subst (λ n. TextRead old new n Q) c.name.ensures c.in_ok-is_formula.ensures.ok)
    (λ texts known. formula_needed claim claimed.nets.now.exact texts claimed.nets.now.approx r contents.is_shown known)
    (λ texts known q. other_formula claim claimed.nets.now.exact texts claimed.nets.now.approx r contents.is_shown known
    (λ same. let is : yes ≡ true = q.1 (same ∙ ap dimacs_text (sym c.in_ok-formula.ensures.formula)) in cc))

pub returns : goal.returns
returns g c =
    let claimed = c.args.claimed.now in
    let claim = claimed.claim in
    let contents = c.args.contents.now in
    let metric = claim.metric in
    let r = report_read metric claim.bound contents.report.now in
    let K = WitnessKnown (claimed_by claimed) r contents.is_shown in
    let old = g.F.Files.told c.args.files.now in
    let mid = g.F.Files.told c.is_formula.new.files in
    let new = g.F.Files.told c.check_log.new.files in
    let yes = c.in_ok-is_formula.field-0 in
    let Q = λ (content : Bytes). IsTrue yes ↔ (content ≡ dimacs_text c.in_ok-formula.formula) in
    answers_later g.L.ItemSink.holds (of_stem claim claimed.nets.now.exact claimed.stem.now) old mid new file.Formula Q K
    (FormulaKnown (claimed_by claimed) r contents.is_shown) (subst (λ n. TextRead old mid n Q) c.name.ensures c.in_ok-is_formula.ensures.ok)
    (λ texts known. formula_needed claim claimed.nets.now.exact texts claimed.nets.now.approx r contents.is_shown known)
    (λ texts known q. record { witness = known; formula = q.0 c.if-not-branch.false ∙ ap dimacs_text c.in_ok-formula.ensures.formula }) c.check_log.result c.check_log.ensures
