-- What a check job comes to, from what its steps say.
use Rattle.std.proofs.Common.{◌≡◌, ◌≢◌, ◌≤◌, ℕ, false, length, inl, inr, refl, sym, subst, ◌∙◌, Option, None, Some, Result, Ok, Err, arith}
use Rattle.std.specs.Prelude.{IfOk, IfErr}
use Rattle.std.proofs.lemmas.Bool.{false_from_ne_true}
use Rattle.semantics.specs.Texts.{Bytes}
use Rattle.semantics.specs.Net.{NetValue, IsSound}
use Rattle.outside_semantics.specs.Outside.{FilesTold, SinkTold, Goes, WhereTold, turn_budget, bytes_of}
use Rattle.blif_semantics.specs.Reading.{Refusal}
use Rattle.file_core.proofs.Told.{Goes-Goes, held_before}
use Rattle.file_reading.specs.declared.unread.Unread.{Unread}
use Rattle.file_reading.specs.declared.unread.Unread.TheVariants as unread
use Rattle.file_reading.specs.Reading.{FilesStay}
use Rattle.job_semantics.specs.declared.certificate_clause.Clause.{Clause}
use Rattle.job_semantics.specs.Call.{Call}
use Rattle.job_semantics.specs.declared.claim.Claim.{Claim}
use Rattle.job_semantics.specs.declared.ending.Ending.{Ending}
use Rattle.job_semantics.specs.Endings.{bundle_name}
use Rattle.job_semantics.specs.Input.{input_reading, IsReadAs, IsRefusedFor}
use Rattle.job_semantics.specs.Certificate.{Texts, texts_of, OfBundle, CertifiesWith, IsFirstFailing, IsNeededFor, clause_number}
use Rattle.job_semantics.proofs.Certificates.{verified_law}
use Rattle.job_semantics.proofs.CheckedFiles.{not_quiet_check}
use Rattle.job_semantics.specs.Synthesis.{OfInput, WhereHeld, InputRefused}
use Rattle.job_semantics.specs.Checking.{IsLeftAlone, ShowsItsBound, CheckVerified, CheckRefuted, CheckEnd, verified, refuted, refused, out_of_memory, not_read, endless, IsVerifiedEnd}
use Rattle.job_semantics.specs.Checking.{IsQuietCheck}
use Rattle.blif_text.specs.declared.refusal.BlifRefusal.{BlifRefusal}
use Rattle.bundle.specs.declared.verdict.Verdict.{Verdict}
use Rattle.bundle.specs.Loading.{of_stem}
use Rattle.bundle.specs.Judging.{FilesKept, IsVerdict, IsFirstFault, verdict_of, IsCause, NothingKnown}
use Rattle.job_answers.specs.declared.status.Status.{Status}
use Rattle.job_answers.specs.declared.status.Status.TheVariants.{Verified, Refuted, Text, NoMemory, ReadFault, WriteFault, Endless}
use Rattle.job_answers.specs.Ends.{EndsWell}
use Rattle.job_answers.specs.OnFiles.{on_files}
use Rattle.job_answers.specs.Unread.{answer_of_unread}
use Rattle.conversions.specs.Input.{NetRead, NetUnread, TextRefused}
use Rattle.conversions.proofs.InputReadings.{OfInput-later, net_read, text_refused}
use Rattle.conversions.proofs.Conversions.{untouched}
use Rattle.job_answers.proofs.Refusals.{AsksNothing, refusal_asks_nothing, blif_is_refusal}
use Rattle.check_jobs.specs.Answers.{status_of_check, IsAnswerFor, CheckAnswer, IsCheckAnswerTo}

-- ---- IN was opened and read, and nothing else

pub input_refused : {input : Bytes} {old new : FilesTold} {said : SinkTold} (refusal : Refusal) → TextRefused refusal old new input
    → InputRefused (λ text. IsRefusedFor text refusal) input (on_files old new said)
input_refused refusal r = record { untouched = untouched r.stay; held = r.held; refused = text_refused r }

module _ {claim : Claim} {input stem : Bytes} {old new : FilesTold} {said : SinkTold} where
  left_at_input : FilesStay old new input → IsLeftAlone claim input stem (on_files old new said)
  left_at_input stay = record {
    goes = stay.goes;
    files = stay.stays;
    still_told = λ a told held. stay.still_told a told held.input_held;
    sink = refl;
  }

  pub check-no_net : (answer : Status) → NetUnread old new input answer → CheckAnswer claim input stem (on_files old new said) answer
  check-no_net (Text reason) (refusal, told, r) = (refused refusal (input_refused refusal r), (reason, told, refl))
  check-no_net ReadFault failed = (not_read (record { untouched = left_at_input failed.stay; rose = failed.rose; not_steady = inl failed.not_steady }), refl)
  check-no_net NoMemory stay = (out_of_memory (left_at_input stay), refl)
  check-no_net _ bad = absurd bad

  pub check-no_names : {N : NetValue} → NetRead old new input N → CheckAnswer claim input stem (on_files old new said) NoMemory
  check-no_names read = (out_of_memory (left_at_input read.stay), refl)

-- ---- IN was read, and then files of the bundle

shows : (claim : Claim) (N : NetValue) (texts : Texts) → IsSound N → CertifiesWith claim N texts → ShowsItsBound claim N texts
shows claim N texts sound c =
    let parts = verified_law.read claim N texts c in
    record {
      approx = parts.0;
      report = parts.1;
      netlist = parts.2;
      reported = parts.3;
      verified = verified_law.verified claim N texts sound c parts.0 parts.1 parts.2 parts.3;
    }

pub not_steady_before : {old mid : FilesTold} {name : Bytes} → Goes old mid → mid.steady_read name ≡ false → old.steady_read name ≡ false
not_steady_before goes h = false_from_ne_true _ (λ steady. cc (goes.steady_read _ steady, h))

module _ {claim : Claim} {input stem : Bytes} {old mid new : FilesTold} {N : NetValue}
    (read : NetRead old mid input N) (kept : FilesKept (of_stem claim N stem) NothingKnown mid new) where
  pub left_alone : {said : SinkTold} → IsLeftAlone claim input stem (on_files old new said)
  left_alone = record {
    goes = Goes-Goes read.stay.goes kept.goes;
    files = λ a b told tells. let m = held_before mid new kept.goes b tells in kept.stays m.0 b m.1 tells ∙ read.stay.stays a m.0 told m.1;
    still_told = λ a told held.
        let still = read.stay.still_told a told held.input_held in
        kept.still_told a still tt (held.bundle_held N (read.told a a told still));
    sink = refl;
  }

  pub original : {said : SinkTold} → OfInput (on_files old new said) input (λ text. IsReadAs text N)
  original = OfInput-later (λ text. IsReadAs text N) kept.goes (net_read read)

  -- what is said of the bundle's texts from the reading of IN on
  pub since : (P : Texts → Type 0) → OfBundle mid new stem P → OfBundle old new stem P
  since P h = λ a b told tells. let m = held_before mid new kept.goes b tells in h m.0 b m.1 tells

  -- a file that is needed for the verdict is needed by the job
  needed_by_job : (ending : Ending) → OfBundle mid new stem (λ texts. NothingKnown texts → IsNeededFor claim N texts ending)
      → WhereTold old new (λ a b. (exact : NetValue) × IsReadAs (bytes_of a input) exact × IsNeededFor claim exact (texts_of b stem) ending)
  needed_by_job ending needed = λ a b told tells.
      let m = held_before mid new kept.goes b tells in
      (N, read.told a m.0 told m.1, needed m.0 b m.1 tells tt)

  certified : {said : SinkTold} → IsSound N → OfBundle mid new stem (CertifiesWith claim N) → CheckVerified claim input stem (on_files old new said)
  certified sound judged =
      let all = since (CertifiesWith claim N) judged in
      record {
        untouched = left_alone;
        exact = N;
        read = original;
        certificate = all;
        shows = λ a b told tells. shows claim N (texts_of b stem) sound (all a b told tells);
      }

  pub failing_first : {said : SinkTold} (c : Clause) → OfBundle mid new stem (λ texts. IsFirstFailing claim N texts c) → CheckRefuted c claim input stem (on_files old new said)
  failing_first c judged = record {
    untouched = left_alone;
    exact = N;
    read = original;
    failing = since (λ texts. IsFirstFailing claim N texts c) judged;
  }

  by_clause : {said : SinkTold} → IsSound N → (failing : Option Clause) → OfBundle mid new stem (λ texts. IsFirstFault claim N texts failing)
      → CheckAnswer claim input stem (on_files old new said) (status_of_check (Ok (verdict_of failing)))
  by_clause sound None judged = (verified (certified sound judged), refl)
  by_clause sound (Some c) judged = (refuted c (failing_first c judged), refl)

  by_verdict : {said : SinkTold} → IsSound N → (v : Verdict) → IsVerdict (of_stem claim N stem) mid new v → CheckAnswer claim input stem (on_files old new said) (status_of_check (Ok v))
  by_verdict {said} sound v h = subst (λ u. CheckAnswer claim input stem (on_files old new said) (status_of_check (Ok u))) (sym h.is) (by_clause sound h.failing h.judged)

  pub by_cause : {said : SinkTold} (reason : Unread) → IsCause (of_stem claim N stem) NothingKnown mid new reason
      → CheckAnswer claim input stem (on_files old new said) (answer_of_unread reason)
  by_cause unread.Fault cause = (
    not_read (record {
      untouched = left_alone;
      rose = omega (arith, read.stay.goes.counts, cause.0);
      not_steady = inr (cause.1.0, needed_by_job cause.1.0 cause.1.1, not_steady_before read.stay.goes cause.1.2);
    }),
    refl,
  )
  by_cause unread.OutOfMemory cause = (out_of_memory left_alone, refl)
  by_cause unread.Endless cause = (
    endless (record {
      untouched = left_alone;
      exact = N;
      read = original;
      ending = cause.0;
      needed = needed_by_job cause.0 cause.1;
      read_out = omega (arith, read.stay.goes.turns (bundle_name stem cause.0), cause.2);
      long = since (λ texts. turn_budget ≤ length (texts cause.0)) cause.3;
    }),
    refl,
  )

  check-judged : {said : SinkTold} → IsSound N → (checked : Result Verdict Unread) → IfOk checked (IsVerdict (of_stem claim N stem) mid new)
      → IfErr checked (IsCause (of_stem claim N stem) NothingKnown mid new)
      → CheckAnswer claim input stem (on_files old new said) (status_of_check checked)
  check-judged sound (Ok v) ok err = by_verdict sound v ok
  check-judged sound (Err reason) ok err = by_cause reason err

-- the bundle's names are those of the stem
pub check-judged_at : {claim : Claim} {input stem names : Bytes} {old mid new : FilesTold} {said : SinkTold} {N : NetValue} → names ≡ stem → IsSound N
    → NetRead old mid input N → FilesKept (of_stem claim N names) NothingKnown mid new → (checked : Result Verdict Unread) → IfOk checked (IsVerdict (of_stem claim N names) mid new)
    → IfErr checked (IsCause (of_stem claim N names) NothingKnown mid new) → CheckAnswer claim input stem (on_files old new said) (status_of_check checked)
check-judged_at {claim} {input} {stem} {names} {old} {mid} {new} {said} same sound read kept checked ok err =
    subst (λ s. CheckAnswer claim input s (on_files old new said) (status_of_check checked)) same (check-judged read kept sound checked ok err)

-- a call without a fault, where its answer is known
ends : {input : Bytes} {old : FilesTold} (status is_now : Status) → status ≡ is_now → is_now ≢ ReadFault → is_now ≢ WriteFault
    → WhereHeld old input (λ a. IsCheckAnswerTo (input_reading (bytes_of a input)) is_now) → EndsWell input_reading IsCheckAnswerTo input old status
ends {input} {old} status is_now is read written answers =
    subst (EndsWell input_reading IsCheckAnswerTo input old) (sym is) (record { read = read; written = written; answers = answers })

-- ---- what follows of the answer

not_refuted : (number : ℕ) → Refuted number ≢ Verified
not_refuted number e = cc

not_text : (reason : BlifRefusal) → Text reason ≢ Verified
not_text reason e = cc

not_memory : NoMemory ≢ Verified
not_memory e = cc

not_fault : ReadFault ≢ Verified
not_fault e = cc

not_endless : Endless ≢ Verified
not_endless e = cc

module _ {claim : Claim} {input stem : Bytes} {call : Call} where
  pub check_asks_nothing : (status : Status) (end : CheckEnd claim input stem call) → IsAnswerFor end status → AsksNothing status
  check_asks_nothing status (verified v) is = subst AsksNothing (sym is) tt
  check_asks_nothing status (refuted c r) is = subst AsksNothing (sym is) tt
  check_asks_nothing status (refused refusal r) tells = refusal_asks_nothing status (blif_is_refusal refusal status tells)
  check_asks_nothing status (out_of_memory m) is = subst AsksNothing (sym is) tt
  check_asks_nothing status (not_read f) is = subst AsksNothing (sym is) tt
  check_asks_nothing status (endless e) is = subst AsksNothing (sym is) tt

  pub verified_end : (status : Status) (end : CheckEnd claim input stem call) → IsAnswerFor end status → status ≡ Verified
      → CheckVerified claim input stem call
  verified_end status (verified v) is so = v
  verified_end status (refuted c r) is so = absurd (not_refuted (clause_number c) (sym is ∙ so))
  verified_end status (refused refusal r) is so = absurd (not_text is.0 (sym is.2 ∙ so))
  verified_end status (out_of_memory m) is so = absurd (not_memory (sym is ∙ so))
  verified_end status (not_read f) is so = absurd (not_fault (sym is ∙ so))
  verified_end status (endless e) is so = absurd (not_endless (sym is ∙ so))

  pub is_verified_end : (status : Status) (end : CheckEnd claim input stem call) → IsAnswerFor end status → status ≡ Verified → IsVerifiedEnd end
  is_verified_end status (verified v) is so = tt
  is_verified_end status (refuted c r) is so = absurd (not_refuted (clause_number c) (sym is ∙ so))
  is_verified_end status (refused refusal r) is so = absurd (not_text is.0 (sym is.2 ∙ so))
  is_verified_end status (out_of_memory m) is so = absurd (not_memory (sym is ∙ so))
  is_verified_end status (not_read f) is so = absurd (not_fault (sym is ∙ so))
  is_verified_end status (endless e) is so = absurd (not_endless (sym is ∙ so))

  -- a quiet call has no fault, and is answered as the reading of IN asks
  pub quiet_check_ends : (status : Status) (end : CheckEnd claim input stem call) → IsAnswerFor end status
      → IsQuietCheck claim input stem call → EndsWell input_reading IsCheckAnswerTo input call.old status
  quiet_check_ends status (verified v) is quiet = ends status Verified is (λ e. cc) (λ e. cc) (λ a told has. (v.exact, v.read.at_entry a told has))
  quiet_check_ends status (refuted c r) is quiet = ends status (Refuted (clause_number c)) is (λ e. cc) (λ e. cc) (λ a told has. (r.exact, r.read.at_entry a told has))
  quiet_check_ends status (refused refusal r) is quiet =
      ends status (Text is.0) is.2 (λ e. cc) (λ e. cc) (λ a told has. (refusal, r.refused.at_entry a told has, is.1))
  quiet_check_ends status (out_of_memory m) is quiet = ends status NoMemory is (λ e. cc) (λ e. cc) (λ a told has. tt)
  quiet_check_ends status (not_read f) is quiet = absurd (not_quiet_check f quiet)
  quiet_check_ends status (endless e) is quiet = ends status Endless is (λ e. cc) (λ e. cc) (λ a told has. (e.exact, e.read.at_entry a told has))
