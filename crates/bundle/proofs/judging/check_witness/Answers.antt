use Rattle.std.proofs.Common.{◌≡◌, length, sym, ap, subst, ◌∙◌, Option, None, Some, Err, arith}
use Rattle.std.proofs.lemmas.Result.{err_from_is_err_and}
use Rattle.semantics.specs.Texts.{Bytes}
use Rattle.job_semantics.specs.declared.ending.Ending.TheVariants as file
use Rattle.job_semantics.specs.declared.certificate_clause.Clause.TheVariants as clause
use Rattle.bundle_texts.specs.Reading.{report_read}
use Rattle.job_semantics.specs.declared.version.Version.{Version}
use Rattle.bundle.specs.Shown.{AskedValue, AreShown, AreShownIn}
use Rattle.bundle.specs.Loading.{of_stem}
use Rattle.bundle.specs.Judging.{claimed_by, TextRead, TextUnread, Answers, ReportKnown, WitnessKnown}
use Rattle.semantics.specs.Error.{net_error}
use Rattle.bundle.proofs.FileTexts.{asked_for, vectors_told, vectors_judged, vectors_read}
use Rattle.semantics.specs.declared.metric.Kind.TheVariants.{Abs}
use Rattle.semantics.specs.Error.{one_word}
use Rattle.std.proofs.lemmas.Bool.{eq-eqb}
use Rattle.bundle.proofs.JudgedTexts.{counts_at, other_vectors, not_attained, vectors_needed}
use Rattle.bundle.proofs.ToldAnswers.{answers_memory, answers_unread, answers_failing, answers_later}
use Rattle.bundle.proofs.judging.check_witness.Goals as goal

pub returns-in_err-is_shown : goal.returns-in_err-is_shown
returns-in_err-is_shown g c =
    let claimed = c.args.claimed.now in
    let claim = claimed.claim in
    let N = claimed.nets.now.exact in
    let M = claimed.nets.now.approx in
    let metric = claim.metric in
    let r = report_read metric claim.bound c.args.report.now in
    let K = ReportKnown (claimed_by claimed) r in
    let witness = c.as_slice-witness.result.now in
    let old = g.F.Files.told c.args.files.now in
    let new = g.F.Files.told c.read_vectors_file.new.files in
    let p = err_from_is_err_and c.from_residual-in_err-is_shown.result c.from_residual-in_err-is_shown.ensures.1 in
    rw p.1
    (answers_unread g.L.ItemSink.holds (of_stem claim N claimed.stem.now) old new file.Vectors K p.0
    (subst (λ n. TextUnread old new n p.0) c.name-name.ensures (subst (TextUnread old new c.name-name.result.now) (sym p.2) c.in_err-is_shown.ensures.err))
    (λ texts known. vectors_needed claim N texts M r known))

pub returns-in_default : goal.returns-in_default
returns-in_default g c =
    let claimed = c.args.claimed.now in
    let claim = claimed.claim in
    let N = claimed.nets.now.exact in
    let M = claimed.nets.now.approx in
    let metric = claim.metric in
    let r = report_read metric claim.bound c.args.report.now in
    let K = ReportKnown (claimed_by claimed) r in
    let witness = c.as_slice-witness.result.now in
    let old = g.F.Files.told c.args.files.now in
    let new = g.F.Files.told c.read_vectors_file.new.files in
    let asked = c.new-asked.result in
    let by_moves = c.decides_by_moves-by_moves.result in
    let is : asked ≡ asked_for N M claim r witness c.as_slice-witness.ensures c.requires.width by_moves
    = c.new-asked.ensures ∙ ap (λ (v : Option Version). record { exact = N; approx = M; metric = metric; bound = claim.bound; witness = witness; version = v }) c.asked_version-version.ensures in
    let Q = λ (content : Bytes). AreShownIn asked None content in
    let was =
    subst (λ n. TextRead old new n Q) c.name-name.ensures
    (subst (λ o. TextRead old new c.name-name.result.now (AreShownIn asked o)) c.in_default.is c.in_ok-is_shown.ensures.ok) in
    answers_failing g.L.ItemSink.holds (of_stem claim N claimed.stem.now) old new file.Vectors Q K clause.Witness was
    (λ texts known. vectors_needed claim N texts M r known)
    (λ texts known none.
    other_vectors claim N texts M r known
    (λ pool vectors.
    subst (λ (a : AskedValue). AreShownIn a None (texts file.Vectors)) is none pool
    (vectors_read N M claim r witness c.as_slice-witness.ensures c.requires.width by_moves (texts file.Vectors) pool vectors)))

pub returns-in_err-error : goal.returns-in_err-error
returns-in_err-error g c =
    let claimed = c.args.claimed.now in
    let claim = claimed.claim in
    let N = claimed.nets.now.exact in
    let metric = claim.metric in
    let K = ReportKnown (claimed_by claimed) (report_read metric claim.bound c.args.report.now) in
    let old = g.F.Files.told c.args.files.now in
    let p = err_from_is_err_and c.from_residual.result c.from_residual.ensures.1 in
    rw p.1
    (subst (λ e. Answers g.L.ItemSink.holds (of_stem claim N claimed.stem.now) K old old (Err e)) (sym p.2)
    (answers_memory g.L.ItemSink.holds (of_stem claim N claimed.stem.now) old K))

pub returns-then-not-is_attained : goal.returns-then-not-is_attained
returns-then-not-is_attained g c =
    let claimed = c.args.claimed.now in
    let claim = claimed.claim in
    let N = claimed.nets.now.exact in
    let M = claimed.nets.now.approx in
    let metric = claim.metric in
    let r = report_read metric claim.bound c.args.report.now in
    let K = ReportKnown (claimed_by claimed) r in
    let witness = c.as_slice-witness.result.now in
    let old = g.F.Files.told c.args.files.now in
    let new = g.F.Files.told c.read_vectors_file.new.files in
    let shown = c.in-Some.is_shown in
    let asked = c.new-asked.result in
    let by_moves = c.decides_by_moves-by_moves.result in
    let is : asked ≡ asked_for N M claim r witness c.as_slice-witness.ensures c.requires.width by_moves
    = c.new-asked.ensures ∙ ap (λ (v : Option Version). record { exact = N; approx = M; metric = metric; bound = claim.bound; witness = witness; version = v }) c.asked_version-version.ensures in
    let Q = λ (content : Bytes). AreShownIn asked (Some shown) content in
    let was =
    subst (λ n. TextRead old new n Q) c.name-name.ensures
    (subst (λ o. TextRead old new c.name-name.result.now (AreShownIn asked o)) c.in-Some.is c.in_ok-is_shown.ensures.ok) in
    answers_failing g.L.ItemSink.holds (of_stem claim N claimed.stem.now) old new file.Vectors Q K clause.Attained was
    (λ texts known. vectors_needed claim N texts M r known)
    (λ texts known holds.
    let told = subst (λ (a : AskedValue). AreShown a shown (texts file.Vectors)) is holds in
    not_attained claim N texts M r known told.pool
    (vectors_told N M claim r witness c.as_slice-witness.ensures c.requires.width by_moves (texts file.Vectors) shown told)
    (λ same. c.if-not-is_attained.true (c.in_ok-error.ensures ∙ ap (net_error metric N M) c.as_slice-witness.ensures ∙ same)))

pub returns : goal.returns
returns g c =
    let claimed = c.args.claimed.now in
    let claim = claimed.claim in
    let N = claimed.nets.now.exact in
    let M = claimed.nets.now.approx in
    let metric = claim.metric in
    let r = report_read metric claim.bound c.args.report.now in
    let K = ReportKnown (claimed_by claimed) r in
    let witness = c.as_slice-witness.result.now in
    let old = g.F.Files.told c.args.files.now in
    let mid = g.F.Files.told c.read_vectors_file.new.files in
    let new = g.F.Files.told c.check_formula.new.files in
    let shown = c.in-Some.is_shown in
    let asked = c.new-asked.result in
    let by_moves = c.decides_by_moves-by_moves.result in
    let is : asked ≡ asked_for N M claim r witness c.as_slice-witness.ensures c.requires.width by_moves
    = c.new-asked.ensures ∙ ap (λ (v : Option Version). record { exact = N; approx = M; metric = metric; bound = claim.bound; witness = witness; version = v }) c.asked_version-version.ensures in
    let Q = λ (content : Bytes). AreShownIn asked (Some shown) content in
    let was =
    subst (λ n. TextRead old mid n Q) c.name-name.ensures
    (subst (λ o. TextRead old mid c.name-name.result.now (AreShownIn asked o)) c.in-Some.is c.in_ok-is_shown.ensures.ok) in
    answers_later g.L.ItemSink.holds (of_stem claim N claimed.stem.now) old mid new file.Vectors Q K (WitnessKnown (claimed_by claimed) r shown) was
    (λ texts known. vectors_needed claim N texts M r known)
    (λ texts known holds.
    record {
      report = known;
      vectors =
          vectors_judged N M claim r witness c.as_slice-witness.ensures c.requires.width by_moves (texts file.Vectors) shown
          (λ counts.
          c.decides_by_moves-by_moves.ensures.1
          (eq-eqb c.in_ok-error.error r.maximum c.if-not-is_attained.false, counts_at claim.growth N M c.args.report.now metric (one_word Abs) claim.bound 0 counts))
          (subst (λ (a : AskedValue). AreShown a shown (texts file.Vectors)) is holds);
      attained =
          sym (ap (net_error metric N M) c.as_slice-witness.ensures) ∙ sym c.in_ok-error.ensures
          ∙ c.if-not-is_attained.false;
    })
    c.check_formula.result c.check_formula.ensures

pub new-asked-requires-clause-few : goal.new-asked-requires-clause-few
new-asked-requires-clause-few g c = omega (arith, ap length c.as_slice-witness.ensures, c.requires.width, c.requires.exact.inputs)

pub new-asked-requires-clause-width : goal.new-asked-requires-clause-width
new-asked-requires-clause-width g c = ap length c.as_slice-witness.ensures ∙ c.requires.width
