-- How what the files tell joins from one file to the next.
use Rattle.std.proofs.Common.{◌≡◌, ℕ, ◌≤◌, false, List, length, refl, sym, subst, ◌∙◌, Result, Ok, Err, arith}
use Rattle.std.proofs.lemmas.Bool.{false_from_ne_true}
use Rattle.semantics.specs.Texts.{Bytes}
use Rattle.outside_semantics.specs.Outside.{Held, FilesTold, bytes_of, turn_budget}
use Rattle.file_core.proofs.Told.{Goes-same, Goes-Goes, held_before}
use Rattle.file_reading.specs.declared.unread.Unread.{Unread}
use Rattle.file_reading.specs.declared.unread.Unread.TheVariants as unread
use Rattle.file_reading.specs.Reading.{FilesStay, FileRead, IsAllWanted}
use Rattle.file_reading.specs.Refused.{FileUnread}
use Rattle.job_semantics.specs.declared.ending.Ending.{Ending}
use Rattle.job_semantics.specs.Endings.{bundle_name}
use Rattle.job_semantics.specs.Certificate.{Texts, texts_of, OfBundle, IsNeededFor, IsFirstFailing}
use Rattle.job_semantics.specs.declared.certificate_clause.Clause.{Clause}
use Rattle.bundle.specs.declared.verdict.Verdict.{Verdict}
use Rattle.bundle.specs.declared.judged.Judged.{Judged}
use Rattle.bundle.specs.declared.judged.Judged.TheVariants.{Good, Failing}
use Rattle.bundle.specs.Judging.{FilesKept, IsFirstFault, IsVerdict, IsCause, verdict_of, failing_of, IsJudged, IsProved, Answers, NothingKnown, TextRead, TextUnread}
use Rattle.bundle.specs.Loading.{StemClaim, IsCertificateWith, IsLoaded, loaded_of}
use Rattle.proof_semantics.specs.Logs.{LogItem, Refutes}

-- ---- the reading of one file

pub text_read : {old new : FilesTold} {name text : Bytes} {room : ℕ} (Q : Bytes → Type 0) → FileRead old new name text room → ((content : Bytes) → IsAllWanted content text room → Q content)
    → TextRead old new name Q
text_read {old} {new} {name} Q read all = record { stay = read.stay; content = λ a b told tells. all (bytes_of a name) (read.all a b told tells) }

pub text_weaker : {old new : FilesTold} {name : Bytes} (P Q : Bytes → Type 0) → TextRead old new name P → ((content : Bytes) → P content → Q content) → TextRead old new name Q
text_weaker {old} {new} {name} P Q read step = record { stay = read.stay; content = λ a b told tells. step (bytes_of a name) (read.content a b told tells) }

pub text_unread : (old new : FilesTold) (name text : Bytes) (reason : Unread) → FileUnread old new name text reason → TextUnread old new name reason
text_unread old new name text unread.Fault h = h
text_unread old new name text unread.OutOfMemory h = h
text_unread old new name text unread.Endless h = (h.stay, h.read_out, h.long)

-- ---- the answers behind it

module _ {L : Type 0} (holds : L → List LogItem → Type 0) (about : StemClaim) where
  abbrev Keeps : (Texts → Type 0) → FilesTold → FilesTold → Type 0
  Keeps K old new = FilesKept about K old new

  abbrev Needs : Ending → Texts → Type 0
  Needs ending texts = IsNeededFor about.claim about.exact texts ending

  -- a needed file was opened and perhaps read, and no other
  kept_by : (old new : FilesTold) (ending : Ending) (K : Texts → Type 0) → FilesStay old new (bundle_name about.stem ending) → ((texts : Texts) → K texts → Needs ending texts) → Keeps K old new
  kept_by old new ending K stay needed = record {
    goes = stay.goes;
    stays = stay.stays;
    still_told = λ a told known held. stay.still_told a told (held ending (needed (texts_of a about.stem) known));
  }

  -- what was read of a file, and what is known with it
  module _ (old mid new : FilesTold) (ending : Ending) (Q : Bytes → Type 0) (K K' : Texts → Type 0) (read : TextRead old mid (bundle_name about.stem ending) Q)
      (needed : (texts : Texts) → K texts → Needs ending texts) (step : (texts : Texts) → K texts → Q (texts ending) → K' texts) (kept : Keeps K' mid new) where
    kept_later : Keeps K old new
    kept_later = record {
      goes = Goes-Goes read.stay.goes kept.goes;
      stays = λ a b told tells. let m = held_before mid new kept.goes b tells in kept.stays m.0 b m.1 tells ∙ read.stay.stays a m.0 told m.1;
      still_told = λ a told known held.
          let still = read.stay.still_told a told (held ending (needed (texts_of a about.stem) known)) in
          kept.still_told a still (step (texts_of a about.stem) known (read.content a a told still)) held;
    }

    read_later : OfBundle old new about.stem (λ texts. Q (texts ending))
    read_later a b told tells =
        let m = held_before mid new kept.goes b tells in
        subst (λ (h : Held). Q (bytes_of h (bundle_name about.stem ending))) (sym (kept_later.stays a b told tells)) (read.content a m.0 told m.1)

    later : (J : Texts → Type 0) → OfBundle mid new about.stem (λ texts. K' texts → J texts) → OfBundle old new about.stem (λ texts. K texts → J texts)
    later J h a b told tells k =
        let m = held_before mid new kept.goes b tells in
        h m.0 b m.1 tells (step (texts_of b about.stem) k (read_later a b told tells))

    bundle_later : (P : Texts → Type 0) → OfBundle mid new about.stem P → OfBundle old new about.stem P
    bundle_later P h a b told tells = let m = held_before mid new kept.goes b tells in h m.0 b m.1 tells

    not_steady_before : (name : Bytes) → mid.steady_read name ≡ false → old.steady_read name ≡ false
    not_steady_before name h = false_from_ne_true _ (λ steady. cc (read.stay.goes.steady_read name steady, h))

    cause_later : (reason : Unread) → IsCause about K' mid new reason → IsCause about K old new reason
    cause_later unread.Fault (rose, (other, unread, unsteady)) =
        (omega (arith, read.stay.goes.counts, rose), (other, later (Needs other) unread, not_steady_before (bundle_name about.stem other) unsteady))
    cause_later unread.OutOfMemory h = tt
    cause_later unread.Endless (other, unread, read_out, long) = (
      other,
      later (Needs other) unread,
      omega (arith, read.stay.goes.turns (bundle_name about.stem other), read_out),
      bundle_later (λ texts. turn_budget ≤ length (texts other)) long,
    )

  -- a file was read, and the check went on with what is known of it
  pub answers_later : (old mid new : FilesTold) (ending : Ending) (Q : Bytes → Type 0) (K K' : Texts → Type 0) → TextRead old mid (bundle_name about.stem ending) Q
      → ((texts : Texts) → K texts → Needs ending texts) → ((texts : Texts) → K texts → Q (texts ending) → K' texts)
      → (answer : Result (Judged L) Unread) → Answers holds about K' mid new answer → Answers holds about K old new answer
  answers_later old mid new ending Q K K' read needed step (Ok judged) (kept, proved, h) = (
    kept_later old mid new ending Q K K' read needed step kept,
    proved,
    later old mid new ending Q K K' read needed step kept (λ texts. IsJudged holds about.claim about.exact texts judged) h,
  )
  answers_later old mid new ending Q K K' read needed step (Err reason) (kept, cause) =
      (kept_later old mid new ending Q K K' read needed step kept, cause_later old mid new ending Q K K' read needed step kept reason cause)

  -- a file was read, and what the clauses come to is known
  pub answers_now : (old new : FilesTold) (ending : Ending) (Q : Bytes → Type 0) (K : Texts → Type 0) (judged : Judged L) → TextRead old new (bundle_name about.stem ending) Q
      → ((texts : Texts) → K texts → Needs ending texts) → IsProved holds judged → ((texts : Texts) → K texts → Q (texts ending) → IsJudged holds about.claim about.exact texts judged)
      → Answers holds about K old new (Ok judged)
  answers_now old new ending Q K judged read needed proved step = (
    kept_by old new ending K read.stay needed,
    proved,
    λ a b told tells k.
        step (texts_of b about.stem) k
        (subst (λ (h : Held). Q (bytes_of h (bundle_name about.stem ending))) (sym (read.stay.stays a b told tells)) (read.content a b told tells)),
  )

  -- a file was read, and this clause is the first that fails
  pub answers_failing : (old new : FilesTold) (ending : Ending) (Q : Bytes → Type 0) (K : Texts → Type 0) (c : Clause) → TextRead old new (bundle_name about.stem ending) Q
      → ((texts : Texts) → K texts → Needs ending texts) → ((texts : Texts) → K texts → Q (texts ending) → IsFirstFailing about.claim about.exact texts c)
      → Answers holds about K old new (Ok (Failing c))
  answers_failing old new ending Q K c read needed step = answers_now old new ending Q K (Failing c) read needed tt step

  -- a file was not read
  pub answers_unread : (old new : FilesTold) (ending : Ending) (K : Texts → Type 0) (reason : Unread) → TextUnread old new (bundle_name about.stem ending) reason
      → ((texts : Texts) → K texts → Needs ending texts) → Answers holds about K old new (Err reason)
  answers_unread old new ending K unread.Fault h needed =
      (kept_by old new ending K h.stay needed, (h.rose, (ending, (λ a b told tells k. needed (texts_of b about.stem) k), h.not_steady)))
  answers_unread old new ending K unread.OutOfMemory h needed = (kept_by old new ending K h needed, tt)
  answers_unread old new ending K unread.Endless (stay, read_out, long) needed = (
    kept_by old new ending K stay needed,
    (
      ending,
      (λ a b told tells k. needed (texts_of b about.stem) k),
      read_out,
      λ a b told tells. subst (λ (h : Held). turn_budget ≤ length (bytes_of h (bundle_name about.stem ending))) (sym (stay.stays a b told tells)) (long a b told tells),
    ),
  )

  -- no file was touched, and there was no memory
  pub answers_memory : (told : FilesTold) (K : Texts → Type 0) → Answers holds about K told told (Err unread.OutOfMemory)
  answers_memory told K = (record { goes = Goes-same told; stays = λ h k old new. cc; still_told = λ a was known held. was }, tt)

  -- a file was read, and then there was no memory
  pub answers_then_memory : (old new : FilesTold) (ending : Ending) (Q : Bytes → Type 0) (K : Texts → Type 0) → TextRead old new (bundle_name about.stem ending) Q
      → ((texts : Texts) → K texts → Needs ending texts) → Answers holds about K old new (Err unread.OutOfMemory)
  answers_then_memory old new ending Q K read needed = (kept_by old new ending K read.stay needed, tt)

  -- the parts of an answer
  module _ (old new : FilesTold) where
    pub answer_kept : (answer : Result (Judged L) Unread) → Answers holds about NothingKnown old new answer → Keeps NothingKnown old new
    answer_kept (Ok failing) h = h.0
    answer_kept (Err reason) h = h.0

    -- the certificate's clauses hold, or this one fails first
    first_fault : (judged : Judged L) (texts : Texts) → IsJudged holds about.claim about.exact texts judged → IsFirstFault about.claim about.exact texts (failing_of judged)
    first_fault (Good goal kept) texts (log, held, certificate) = certificate.certifies
    first_fault (Failing c) texts h = h

    pub verdict_told : (judged : Judged L) (verdict : Verdict) → verdict ≡ verdict_of (failing_of judged) → Answers holds about NothingKnown old new (Ok judged)
        → IsVerdict about old new verdict
    verdict_told judged verdict is (kept, proved, h) = record { failing = failing_of judged; is = is; judged = λ a b told tells. first_fault judged (texts_of b about.stem) (h a b told tells tt) }

-- what was loaded
pub loaded_told : (about : StemClaim) (old new : FilesTold) (judged : Judged (List LogItem))
    → Answers (λ kept log. kept ≡ log) about NothingKnown old new (Ok judged) → IsLoaded about old new (loaded_of judged)
loaded_told about old new (Good goal kept) (stays, (log, refutes, held), h) = (
  subst (Refutes goal.clauses) (sym held) refutes,
  λ a b told tells. let (other, same, certificate) = h a b told tells tt in subst (IsCertificateWith about.claim about.exact (texts_of b about.stem) goal) (sym same) certificate,
)
loaded_told about old new (Failing c) (stays, proved, h) = (c, refl, λ a b told tells. h a b told tells tt)
