-- What a trim job comes to, from what its steps say; and that a quiet call has no fault.
use Rattle.std.proofs.Common.{◌≡◌, ◌≢◌, ℕ, Bool, true, false, not, ◌&&◌, List, [], ◌∷◌, ◌++◌, take, Some, Result, Ok, Err, inl, inr, refl, ap, sym, subst, ◌∙◌}
use Rattle.std.specs.Prelude.{IsTrue}
use Rattle.semantics.specs.Texts.{Bytes}
use Rattle.semantics.specs.Net.{NetValue}
use Rattle.blif_semantics.specs.Reading.{Refusal}
use Rattle.outside_semantics.specs.Outside.{Held, FilesTold, SinkTold, Goes, bytes_of}
use Rattle.outside_semantics.specs.WrittenFiles.{File, with_files, IsCutAt, IsCutShort}
use Rattle.file_core.specs.Page.{WritesFiles}
use Rattle.file_core.proofs.Told.{held_before}
use Rattle.file_reading.specs.declared.unread.Unread.{Unread}
use Rattle.file_reading.specs.declared.unread.Unread.TheVariants as unread
use Rattle.proof_semantics.specs.Clauses as clauses
use Rattle.proof_semantics.specs.Formula.{Formula}
use Rattle.proof_semantics.specs.Logs.{LogItem, Refutes}
use Rattle.proof_semantics.specs.Lrat.{lrat_text}
use Rattle.trim_semantics.specs.Trimmed.{IsTrimmed}
use Rattle.job_semantics.specs.Endings.{is_bundle_name}
use Rattle.job_semantics.specs.Job.{are_file_words, is_output_word, are_trim_words}
use Rattle.job_semantics.specs.Call.{Call}
use Rattle.job_semantics.specs.declared.claim.Claim.{Claim}
use Rattle.job_semantics.specs.Certificate.{Texts, texts_of, OfBundle}
use Rattle.job_semantics.specs.Checking.{CheckEnd, verified, refuted, refused, out_of_memory, not_read, endless, IsLeftAlone, IsQuietCheck}
use Rattle.job_semantics.specs.Conversion.{output_file}
use Rattle.job_semantics.specs.Trimming.{IsTrimmedBundle, TrimCutShort, TrimEnd, done, not_written, not_verified, IsQuietTrim}
use Rattle.job_semantics.proofs.BundleNames.{texts_stay}
use Rattle.job_semantics.specs.Input.{input_reading, IsReadAs}
use Rattle.bundle.specs.Judging.{FilesKept, IsCause, NothingKnown}
use Rattle.bundle.specs.Loading.{of_stem, IsCertificateWith, IsLoaded}
use Rattle.bundle.specs.declared.loaded.Loaded.TheVariants as load
use Rattle.job_answers.specs.declared.status.Status.{Status}
use Rattle.job_answers.specs.declared.status.Status.TheVariants.{Done, Verified, Refuted, NoMemory, WriteFault}
use Rattle.job_answers.specs.Ends.{EndsWell}
use Rattle.job_answers.specs.OnFiles.{on_files}
use Rattle.job_answers.specs.Unread.{answer_of_unread}
use Rattle.job_answers.proofs.Refusals.{AsksNothing}
use Rattle.conversions.specs.Input.{NetRead, NetUnread}
use Rattle.conversions.specs.Answers.{answer_of_writing}
use Rattle.conversions.proofs.InputReadings.{OfInput-later}
use Rattle.conversions.proofs.OneFile.{one_steady, written_after, cut_after}
use Rattle.check_jobs.specs.Answers.{IsAnswerFor, CheckAnswer, IsTrimAnswer, TrimAnswer, IsCheckAnswerTo, IsTrimAnswerTo}
use Rattle.check_jobs.specs.Trimmed.{IsTrimmedTo, log_file, TrimmedAnswer}
use Rattle.check_jobs.proofs.CheckAnswers.{check-no_net, check-no_names, left_alone, original, failing_first, by_cause, check_asks_nothing, is_verified_end, quiet_check_ends}

-- ---- a check that is not verified

module _ (claim : Claim) (input stem output : Bytes) (old new : FilesTold) (said : SinkTold) where
  as_checked : (answer : Status) (end : CheckEnd claim input stem (on_files old new said)) → IsAnswerFor end answer → answer ≢ Verified
      → TrimAnswer claim input stem output (on_files old new said) answer
  as_checked answer (verified v) is other = absurd (other is)
  as_checked answer (refuted c r) is other = (not_verified (refuted c r) (λ h. h), is)
  as_checked answer (refused refusal r) is other = (not_verified (refused refusal r) (λ h. h), is)
  as_checked answer (out_of_memory left) is other = (not_verified (out_of_memory left) (λ h. h), is)
  as_checked answer (not_read fault) is other = (not_verified (not_read fault) (λ h. h), is)
  as_checked answer (endless e) is other = (not_verified (endless e) (λ h. h), is)

  pub from_check : (answer : Status) → CheckAnswer claim input stem (on_files old new said) answer → answer ≢ Verified → TrimAnswer claim input stem output (on_files old new said) answer
  from_check answer checked other = as_checked answer checked.0 checked.1 other

  pub trim-no_net : (answer : Status) → NetUnread old new input answer → TrimAnswer claim input stem output (on_files old new said) answer
  trim-no_net answer unread = from_check answer (check-no_net answer unread) (λ is. subst (NetUnread old new input) is unread)

  pub trim-no_names : (N : NetValue) → NetRead old new input N → TrimAnswer claim input stem output (on_files old new said) NoMemory
  trim-no_names N read = from_check NoMemory (check-no_names read) (λ e. cc)

unread_is_not_verified : (reason : Unread) → answer_of_unread reason ≢ Verified
unread_is_not_verified unread.Fault e = cc
unread_is_not_verified unread.OutOfMemory e = cc
unread_is_not_verified unread.Endless e = cc

-- ---- the certificate stands

other_word : (p q r : Bool) → (p && (q && not r)) ≡ true → r ≡ false
other_word false q r is = cc
other_word true false r is = cc
other_word true true true is = cc
other_word true true false is = refl

-- OUT is no file of the bundle
no_bundle_name : (input stem output : Bytes) → IsTrue (are_trim_words input stem output) → is_bundle_name stem output ≡ false
no_bundle_name input stem output words = other_word (are_file_words input stem) (is_output_word input output) (is_bundle_name stem output) words

one_cut : (f : File) (whole : List File) (failed : File) (later : List File) → f ∷ [] ≡ whole ++ failed ∷ later → (whole ≡ []) × (failed ≡ f)
one_cut f [] failed later is = (refl, cc)
one_cut f (w ∷ []) failed later is = absurd cc
one_cut f (w ∷ v ∷ whole) failed later is = absurd cc

-- a file that is cut at OUT is as it was, or OUT has some bytes
module _ (stem output : Bytes) (other : is_bundle_name stem output ≡ false) (a b : Held) (log : List LogItem) where
  texts_at_cut : IsCutAt a (log_file output log) b → texts_of b stem ≡ texts_of a stem
  texts_at_cut (inl same) = ap (λ h. texts_of h stem) same
  texts_at_cut (inr part) = ap (λ h. texts_of h stem) part.2 ∙ texts_stay a stem output (take part.0 (lrat_text log)) other

  texts_after_cut : IsCutShort a b (log_file output log ∷ []) → texts_of b stem ≡ texts_of a stem
  texts_after_cut short =
      let one = one_cut (log_file output log) short.whole short.failed short.later short.order in
      texts_at_cut (subst (λ f. IsCutAt a f b) one.1 (subst (λ w. IsCutAt (with_files a w) short.failed b) one.0 short.cut))

-- the texts are a certificate of this formula and this log, and this is the trimmed log
trimmed_bundle : (claim : Claim) (N : NetValue) (goal : Formula) (log short : List LogItem) (texts : Texts) → IsTrimmedTo goal.clauses log short
    → IsCertificateWith claim N texts goal log → IsTrimmedBundle claim N (lrat_text short) texts
trimmed_bundle claim N goal log short texts t c = record {
  certificate = c.certifies;
  trimmed = (
    c.parts.0,
    c.parts.1,
    (
      c.parts.2.0,
      c.parts.2.1,
      record {
        log = log;
        refuted = c.parts.2.2.1;
        short = short;
        trimmed = t.trimmed;
        refutes = subst (λ (f : Formula). Refutes f.clauses short) c.parts.2.2.0 t.refutes;
        is = refl;
      },
    ),
  );
}

module _ (claim : Claim) (input stem output : Bytes) (old mid kept : FilesTold) (said : SinkTold) (N : NetValue) (read : NetRead old mid input N)
    (keeps : FilesKept (of_stem claim N stem) NothingKnown mid kept) where
  trim-refuted : (number : ℕ) → IsLoaded (of_stem claim N stem) mid kept (load.Refuted number) → TrimAnswer claim input stem output (on_files old kept said) (Refuted number)
  trim-refuted number judged = (not_verified (refuted judged.0 (failing_first read keeps judged.0 judged.2)) (λ h. h), ap Refuted judged.1)

  trim-unread : (reason : Unread) → IsCause (of_stem claim N stem) NothingKnown mid kept reason → TrimAnswer claim input stem output (on_files old kept said) (answer_of_unread reason)
  trim-unread reason cause = from_check claim input stem output old kept said (answer_of_unread reason) (by_cause read keeps reason cause) (unread_is_not_verified reason)

  left : IsLeftAlone claim input stem (on_files old kept said)
  left = left_alone read keeps

  module _ (other : is_bundle_name stem output ≡ false) (goal : Formula) (log : List LogItem)
      (certified : OfBundle mid kept stem (λ texts. IsCertificateWith claim N texts goal log)) (new : FilesTold) where
    bundle_at : (short : List LogItem) → IsTrimmedTo goal.clauses log short → Goes kept new
        → ((a b : Held) → kept.held ≡ Some a → new.held ≡ Some b → texts_of b stem ≡ texts_of a stem) → OfBundle old new stem (IsTrimmedBundle claim N (lrat_text short))
    bundle_at short t goes same = λ a b told tells.
        let k = held_before kept new goes b tells in
        let m = held_before mid kept keeps.goes k.0 k.1 in
        subst (IsTrimmedBundle claim N (lrat_text short)) (sym (same k.0 b k.1 tells))
        (trimmed_bundle claim N goal log short (texts_of k.0 stem) t (certified m.0 k.0 m.1 k.1))

    trim-stands : (answer : Status) → TrimmedAnswer goal.clauses log output kept new answer → TrimAnswer claim input stem output (on_files old new said) answer
    trim-stands Done (short, t, w) = (
      done (record {
        exact = N;
        read = OfInput-later (λ text. IsReadAs text N) w.goes (original read keeps);
        text = lrat_text short;
        bundle = bundle_at short t w.goes (λ a b told tells. ap (λ h. texts_of h stem) (w.held a b told tells) ∙ texts_stay a stem output (lrat_text short) other);
        written = record { files = written_after left.goes left.files (log_file output short ∷ []) w; sink = refl };
      }),
      refl,
    )
    trim-stands WriteFault (short, t, cut) = (
      not_written (record {
        exact = N;
        read = OfInput-later (λ text. IsReadAs text N) cut.goes (original read keeps);
        text = lrat_text short;
        bundle = bundle_at short t cut.goes (λ a b told tells. texts_after_cut stem output other a b short (cut.held a b told tells));
        left = record { files = cut_after left.goes left.files (log_file output short) cut; sink = refl };
      }),
      refl,
    )
    trim-stands NoMemory same =
        (not_verified (out_of_memory (subst (λ n. IsLeftAlone claim input stem (on_files old n said)) (sym same) left)) (λ h. h), refl)
    trim-stands _ bad = absurd bad

-- the bundle's names are those of the stem
module _ (claim : Claim) (input stem output names : Bytes) (old mid kept : FilesTold) (said : SinkTold) (N : NetValue) (same : names ≡ stem)
    (read : NetRead old mid input N) (keeps : FilesKept (of_stem claim N names) NothingKnown mid kept) where
  kept_at_stem : FilesKept (of_stem claim N stem) NothingKnown mid kept
  kept_at_stem = subst (λ s. FilesKept (of_stem claim N s) NothingKnown mid kept) same keeps

  pub trim-refuted_at : (number : ℕ) → IsLoaded (of_stem claim N names) mid kept (load.Refuted number) → TrimAnswer claim input stem output (on_files old kept said) (Refuted number)
  trim-refuted_at number judged =
      trim-refuted claim input stem output old mid kept said N read kept_at_stem number (subst (λ s. IsLoaded (of_stem claim N s) mid kept (load.Refuted number)) same judged)

  pub trim-unread_at : (reason : Unread) (answer : Status) → IsCause (of_stem claim N names) NothingKnown mid kept reason → answer ≡ answer_of_unread reason
      → TrimAnswer claim input stem output (on_files old kept said) answer
  trim-unread_at reason answer cause is =
      subst (TrimAnswer claim input stem output (on_files old kept said)) (sym is)
      (trim-unread claim input stem output old mid kept said N read kept_at_stem reason (subst (λ s. IsCause (of_stem claim N s) NothingKnown mid kept reason) same cause))

  pub trim-stands_at : IsTrue (are_trim_words input stem output) → (goal : Formula) (log : List LogItem) → IsLoaded (of_stem claim N names) mid kept (load.Good goal log)
      → (new : FilesTold) (answer : Status) → TrimmedAnswer goal.clauses log output kept new answer → TrimAnswer claim input stem output (on_files old new said) answer
  trim-stands_at words goal log judged new answer trimmed =
      trim-stands claim input stem output old mid kept said N read kept_at_stem (no_bundle_name input stem output words) goal log
      (subst (λ s. OfBundle mid kept s (λ texts. IsCertificateWith claim N texts goal log)) same judged.1) new answer trimmed

-- the writing of the trimmed log
pub trimmed-written : {T E : Type 0} (clauses : List clauses.Clause) (log short : List LogItem) (output : Bytes) (old new : FilesTold) (written : Result T E) → IsTrimmed log short
    → Refutes clauses short → WritesFiles written old new (log_file output short ∷ []) → TrimmedAnswer clauses log output old new (answer_of_writing written)
trimmed-written clauses log short output old new (Ok whole) trimmed refutes w = (short, record { trimmed = trimmed; refutes = refutes }, w.ok)
trimmed-written clauses log short output old new (Err fault) trimmed refutes w = (short, record { trimmed = trimmed; refutes = refutes }, w.err)

-- ---- what follows of the answer

trim_answer : (reading : Result NetValue Refusal) (answer : Status) → answer ≢ Verified → IsCheckAnswerTo reading answer → IsTrimAnswerTo reading answer
trim_answer reading Verified other is = absurd (other refl)
trim_answer reading Done other is = absurd is
trim_answer reading _ other is = is

module _ {claim : Claim} {input stem output : Bytes} {call : Call} where
  pub trim_asks_nothing : (answer : Status) (end : TrimEnd claim input stem output call) → IsTrimAnswer end answer → AsksNothing answer
  trim_asks_nothing answer (done d) is = subst AsksNothing (sym is) tt
  trim_asks_nothing answer (not_written cut) is = subst AsksNothing (sym is) tt
  trim_asks_nothing answer (not_verified end other) is = check_asks_nothing answer end is

  -- a call with a fault in writing is not quiet
  not_quiet_write : TrimCutShort claim input stem output call → IsQuietTrim claim input stem output call → ⊥
  not_quiet_write cut quiet =
      elim quiet.files [
        | inl calm ↦ calm cut.left.files.rose
        | inr steady ↦
            let yes : call.old.steady_write output ≡ true = steady.written (λ a b told tells. (cut.exact, cut.read.told a b told tells, (cut.bundle a b told tells).certificate)) in
            let not_so : call.old.steady_write output ≡ false = one_steady call.old (output_file output cut.text) cut.left.files.not_steady in
            cc
      ]

  as_quiet_check : IsQuietTrim claim input stem output call → IsQuietCheck claim input stem call
  as_quiet_check quiet = record { files = elim quiet.files [ inl calm ↦ inl calm | inr steady ↦ inr steady.read ]; sink = quiet.sink }

  -- a quiet call has no fault, and is answered as the reading of IN asks
  pub quiet_trim_ends : (answer : Status) (end : TrimEnd claim input stem output call) → IsTrimAnswer end answer
      → IsQuietTrim claim input stem output call → EndsWell input_reading IsTrimAnswerTo input call.old answer
  quiet_trim_ends answer (done d) is quiet = subst (EndsWell input_reading IsTrimAnswerTo input call.old) (sym is) (record {
    read = λ e. cc;
    written = λ e. cc;
    answers = λ a told has. (d.exact, d.read.at_entry a told has);
  })
  quiet_trim_ends answer (not_written cut) is quiet = absurd (not_quiet_write cut quiet)
  quiet_trim_ends answer (not_verified end other) is quiet =
      let well = quiet_check_ends answer end is (as_quiet_check quiet) in
      record {
        read = well.read;
        written = well.written;
        answers = λ a told has. trim_answer (input_reading (bytes_of a input)) answer (λ so. other (is_verified_end answer end is so)) (well.answers a told has);
      }
