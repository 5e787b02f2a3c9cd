-- What the front of a file's text says of the whole.
use Rattle.std.proofs.Common.{◌≡◌, ℕ, ◌+◌, ◌-◌, ◌<◌, Bool, true, false, not, ◌&&◌, if◌then◌else◌, List, ◌∷◌, length, nat_le, Option, Some, None, Err, inl, inr, refl, sym, ap, subst, ◌∙◌, arith}
use Rattle.std.specs.Prelude.{◌↔◌, IsTrue, IfSome, MatchOption}
use Rattle.std.proofs.lemmas.Bool.{cases_lt}
use Rattle.std.proofs.lemmas.Bool.Decides.{nat_tests}
use Rattle.semantics.specs.declared.limits.TheConstants.{MOST_BUNDLE_BYTES}
use Rattle.semantics.specs.Texts.{Bytes}
use Rattle.semantics.specs.Net.{NetValue, input_count}
use Rattle.blif_semantics.specs.Reading.{Refusal, text_long, blif_reading}
use Rattle.blif_text.specs.Refusals.{refusal_of, Tells}
use Rattle.blif_text.specs.declared.refusal.BlifRefusal.{BlifRefusal}
use Rattle.blif_text.specs.declared.refusal.BlifRefusal.TheVariants as b
use Rattle.file_reading.specs.Reading.{IsAllWanted, FilesStay}
use Rattle.file_core.proofs.Told.{Goes-same}
use Rattle.outside_semantics.specs.Outside.{FilesTold}
use Rattle.semantics.specs.declared.metric.Metric.{Metric}
use Rattle.job_semantics.specs.Report.{Report}
use Rattle.job_semantics.specs.Certificate.{IsReportText, IsVectorsText, moves_in, AreCounts}
use Rattle.job_semantics.specs.declared.version.Version.{Version}
use Rattle.job_semantics.specs.declared.claim.Claim.{Claim}
use Rattle.chain_semantics.specs.Minimality.{AreBrokenBySome}
use Rattle.bundle_texts.specs.declared.report_reading.ReportRead.{ReportRead}
use Rattle.bundle_texts.specs.Reading.{report_read}
use Rattle.bundle_texts.specs.FilesRead.{IsNetIn, IsReportIn}
use Rattle.bundle.specs.Shown.{AskedValue, claimed_moves, claimed_version, AreShown}
use Rattle.bundle.specs.Judging.{AreVectorsJudged}
use Rattle.bundle_texts.proofs.Fronts.{whole_front, front_at_most}

pub FilesStay-same : (a : FilesTold) (name : Bytes) → FilesStay a a name
FilesStay-same a name = record { goes = Goes-same a; stays = λ h k told tells. cc; still_told = λ h told has. told }

if_false : {X : Type 0} (b : Bool) (x y : X) → b ≡ false → (if not b then x else y) ≡ x
if_false b x y is = ap (λ t. if not t then x else y) is

too_long : (text : Bytes) (most : ℕ) → most < length text → blif_reading text most ≡ Err text_long
unfolding blif_reading
too_long text most long = if_false (nat_le (length text) most) _ _ (grind (arith, nat_tests))

-- the reading of a netlist is the reading of its front, up to one byte past the limit
pub reading_front : (content text : Bytes) (limit : ℕ) → limit ≡ MOST_BUNDLE_BYTES → IsAllWanted content text (limit + 1 - length text)
    → blif_reading text MOST_BUNDLE_BYTES ≡ blif_reading content MOST_BUNDLE_BYTES
reading_front content text limit is wanted =
    elim (cases_lt MOST_BUNDLE_BYTES (length text)) [
      | inl long ↦ too_long text MOST_BUNDLE_BYTES long ∙ sym
          (too_long content MOST_BUNDLE_BYTES (front_at_most content text (limit + 1 - length text) (MOST_BUNDLE_BYTES + 1) wanted (omega (arith, long))))
      | inr short ↦ ap (λ t. blif_reading t MOST_BUNDLE_BYTES) (whole_front content text limit wanted (omega (arith, short, is)))
    ]

-- a refusal but want of memory is one of the text
told_refusal : (reason : BlifRefusal) → ¬ (reason ≡ b.OutOfMemory) → (refusal : Refusal) × (refusal_of reason ≡ Some refusal)
told_refusal b.TextLong other = (_, refl)
told_refusal (b.BadByte line) other = (_, refl)
told_refusal (b.Command line word) other = (_, refl)
told_refusal (b.StrayRow line) other = (_, refl)
told_refusal (b.BadRow line) other = (_, refl)
told_refusal (b.MixedPlane line) other = (_, refl)
told_refusal (b.SecondModel line) other = (_, refl)
told_refusal (b.AfterEnd line) other = (_, refl)
told_refusal (b.NamesEmpty line) other = (_, refl)
told_refusal (b.BadName line) other = (_, refl)
told_refusal (b.Doubled name) other = (_, refl)
told_refusal (b.Undriven name) other = (_, refl)
told_refusal b.NoOutput other = (_, refl)
told_refusal (b.Cycle name) other = (_, refl)
told_refusal (b.Limit which) other = (_, refl)
told_refusal b.OutOfMemory other = absurd (other refl)

-- no net is in a text that is refused
pub refused_text : (reason : BlifRefusal) (content text : Bytes) → blif_reading text MOST_BUNDLE_BYTES ≡ blif_reading content MOST_BUNDLE_BYTES → Tells reason (blif_reading text MOST_BUNDLE_BYTES)
    → ¬ (reason ≡ b.OutOfMemory)
    → IsNetIn None content
refused_text reason content text same tells other M is =
    let told = told_refusal reason other in
    let refused : blif_reading text MOST_BUNDLE_BYTES ≡ Err told.0 = tells told.0 told.1 in
    cc

-- ---- what was read of a report and of vectors

pub report_in : (inputs : ℕ) (metric : Metric) (bound : ℕ) (text : Bytes) (o : Option ReportRead)
    → MatchOption o ((r : Report) → ¬ IsReportText inputs metric bound text r) (λ found. IsReportText inputs metric bound text (report_read metric bound found)) → IsReportIn inputs metric bound o text
report_in inputs metric bound text None h = h
report_in inputs metric bound text (Some found) h = h

pub report_width : (inputs : ℕ) (metric : Metric) (bound : ℕ) (text : Bytes) (o : Option ReportRead)
    → MatchOption o ((r : Report) → ¬ IsReportText inputs metric bound text r) (λ found. IsReportText inputs metric bound text (report_read metric bound found))
    → IfSome o (λ r. length r.witness ≡ inputs)
report_width inputs metric bound text None h = tt
report_width inputs metric bound text (Some found) h = h.witness

-- ---- the vectors of a text, for the witness that the code holds

-- what is claimed of the moves is decided where the moves of the version that is claimed are
claim_decided : (metric : Metric) (exact : NetValue) (bound : ℕ) (M : NetValue) (vectors : List (List Bool)) (shown minimal : Bool) (version : Version)
    → IsTrue shown ↔ AreBrokenBySome metric exact bound M vectors (claimed_moves (claimed_version minimal version) M)
    → IsTrue shown ↔ (IsTrue minimal → AreBrokenBySome metric exact bound M vectors (moves_in version M))
claim_decided metric exact bound M vectors shown true version h = (λ is _. h.0 is, λ broken. h.1 (broken refl))
claim_decided metric exact bound M vectors shown false version h = (λ is e. absurd (cc (e)), λ broken. h.1 tt)

module _ (exact M : NetValue) (claim : Claim) (r : Report) (held : List Bool) (same : held ≡ r.witness) (width : length r.witness ≡ input_count exact) (by_moves : Bool) where
  abbrev pub asked_for : AskedValue
  asked_for = record { exact = exact; approx = M; metric = claim.metric; bound = claim.bound; witness = held; version = claimed_version (by_moves && r.minimal) r.version }

  wide : length held ≡ input_count exact
  wide = ap length same ∙ width

  pub vectors_told : (text : Bytes) (shown : Bool) (h : AreShown asked_for shown text) → IsVectorsText (input_count exact) text r.witness h.pool
  vectors_told text shown h = subst (λ w. IsVectorsText (input_count exact) text w h.pool) same (subst (λ n. IsVectorsText n text held h.pool) wide h.read)

  pub vectors_judged : (text : Bytes) (shown : Bool) → (AreCounts claim.growth exact M r → by_moves ≡ true) → AreShown asked_for shown text
      → AreVectorsJudged (record { claim = claim; exact = exact; approx = M }) r shown text
  vectors_judged text shown decides h = record {
    pool = h.pool;
    read = vectors_told text shown h;
    decided = λ counts.
        claim_decided claim.metric exact claim.bound M (r.witness ∷ h.pool) shown r.minimal r.version
        (subst (λ t. IsTrue shown ↔ AreBrokenBySome claim.metric exact claim.bound M (r.witness ∷ h.pool) (claimed_moves (claimed_version (t && r.minimal) r.version) M)) (decides counts)
        (subst (λ (w : List Bool). IsTrue shown ↔ AreBrokenBySome claim.metric exact claim.bound M (w ∷ h.pool) (claimed_moves (claimed_version (by_moves && r.minimal) r.version) M)) same h.decided));
  }

  pub vectors_read : (text : Bytes) (pool : List (List Bool)) → IsVectorsText (input_count exact) text r.witness pool → IsVectorsText (length held) text held pool
  vectors_read text pool h =
      subst (λ w. IsVectorsText (length held) text w pool) (sym same) (subst (λ n. IsVectorsText n text r.witness pool) (sym wide) h)
