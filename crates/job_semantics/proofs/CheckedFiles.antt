-- Which told files are verified, and what a check says of the files that a job left.
use Rattle.std.proofs.Common.{◌≡◌, ◌≢◌, ◌⊎◌, Bool, true, false, not, ◌&&◌, ◌||◌, List, [], ◌∷◌, Option, Some, Result, Ok, Err, inl, inr, refl, ap, sym, subst, ◌∙◌, arith}
use Rattle.std.specs.Prelude.{IsTrue, unwrap_or, bytes_eq}
use Rattle.std.specs.List.{AllByRecursion, list_any}
use Rattle.std.specs.FinMap.{get}
use Rattle.std.proofs.lemmas.Slice.Eq.{bytes_eq-Decides}
use Rattle.semantics.specs.Texts.{Bytes}
use Rattle.semantics.specs.Net.{NetValue}
use Rattle.outside_semantics.specs.Outside.{Held, WhereTold, bytes_of}
use Rattle.outside_semantics.specs.WrittenFiles.{with_files}
use Rattle.blif_semantics.specs.Reading.{Refusal}
use Rattle.job_semantics.specs.declared.ending.Ending.{Ending}
use Rattle.job_semantics.specs.declared.certificate_clause.Clause.{Clause}
use Rattle.job_semantics.specs.Endings.{bundle_endings, bundle_name, bundle_files, is_bundle_name}
use Rattle.job_semantics.specs.Job.{are_file_words, is_empty_word}
use Rattle.job_semantics.specs.Input.{IsReadAs, IsRefusedFor}
use Rattle.job_semantics.specs.Certificate.{Texts, texts_of, CertifiesWith, IsOfAllowedSize, IsFirstFailing}
use Rattle.job_semantics.specs.declared.growth.Growth.{Growth}
use Rattle.job_semantics.specs.declared.growth.Growth.TheVariants.{Refused, Allowed}
use Rattle.job_semantics.specs.Synthesis.{OfInput, InputRefused, BundleWritten, synth_bundle, Request, simplifying, claim_of, request_of}
use Rattle.proof_semantics.specs.Queries.{SpentValue}
use Rattle.job_semantics.specs.Bundle.{bundle_text}
use Rattle.job_semantics.specs.Checking.{AreCheckFilesHeld, IsLeftAlone, CheckRefuted, CheckReadFault, CheckEnd, verified, refuted, refused, out_of_memory, not_read, endless, IsQuietCheck, AreShort}
use Rattle.job_semantics.specs.Checking.{IsVerifiedEnd, IsEndlessEnd, IsVerifiedOrNoMemory, VerifiesWith}
use Rattle.job_semantics.specs.CheckingLaws.{CheckedFilesLaw, JoinedRunsLaw, JoinedTaskLaw}
use Rattle.job_semantics.proofs.BundleFiles.{bundle_files-others}
use Rattle.job_semantics.proofs.Certificates.{first_failing_law}
use Rattle.job_semantics.proofs.CertifiedFiles.{certified_files_held}
use Rattle.job_semantics.specs.Call.{Call}
use Rattle.job_semantics.specs.declared.claim.Claim.{Claim}

-- a text is read as one net
pub one_net : (text : Bytes) (N M : NetValue) → IsReadAs text N → IsReadAs text M → N ≡ M
one_net text N M n m = let both : ◌≡◌ {A = Result NetValue Refusal} (Ok N) (Ok M) = sym n ∙ m in cc

-- a call with a fault is not quiet
pub not_quiet_check : {claim : Claim} {input stem : Bytes} {call : Call}
    → CheckReadFault claim input stem call → IsQuietCheck claim input stem call → ⊥
not_quiet_check {claim} {input} {stem} {call} fault quiet =
    elim quiet.files [
      | inl calm ↦ calm fault.rose
      | inr steady ↦ elim fault.not_steady [
        | inl unread ↦ let yes : call.old.steady_read input ≡ true = steady.read in let no : call.old.steady_read input ≡ false = unread in cc
        | inr one ↦
            let yes : call.old.steady_read (bundle_name stem one.0) ≡ true = steady.bundle one.0 one.1 in
            let no : call.old.steady_read (bundle_name stem one.0) ≡ false = one.2 in
            cc
      ]
    ]

module _ {claim : Claim} {input stem : Bytes} {call : Call} where
  only_certificates : (end : CheckEnd claim input stem call) → IsVerifiedEnd end → (a b : Held) → call.old.held ≡ Some a → call.new.held ≡ Some b
      → (exact : NetValue) → IsReadAs (bytes_of a input) exact → CertifiesWith claim exact (texts_of b stem)
  only_certificates (verified v) is a b told tells exact reads =
      subst (λ N. CertifiesWith claim N (texts_of b stem)) (one_net (bytes_of a input) v.exact exact (v.read.told a b told tells) reads) (v.certificate a b told tells)
  only_certificates (refuted c r) is a b told tells exact reads = absurd is
  only_certificates (refused refusal r) is a b told tells exact reads = absurd is
  only_certificates (out_of_memory m) is a b told tells exact reads = absurd is
  only_certificates (not_read f) is a b told tells exact reads = absurd is
  only_certificates (endless e) is a b told tells exact reads = absurd is

  module _ (a : Held) (exact : NetValue) (told : call.old.held ≡ Some a) (held : AreCheckFilesHeld claim input stem a) where
    stays_told : IsLeftAlone claim input stem call → call.new.held ≡ Some a
    stays_told left = left.still_told a told held

    not_refused : (refusal : Refusal) → InputRefused (λ text. IsRefusedFor text refusal) input call → IsReadAs (bytes_of a input) exact → ⊥
    not_refused refusal r reads =
        let both : ◌≡◌ {A = Result NetValue Refusal} (Err refusal) (Ok exact) = sym (r.refused.at_entry a told held.input_held) ∙ reads in cc

    not_refuted : (c : Clause) → CheckRefuted c claim input stem call → IsReadAs (bytes_of a input) exact → CertifiesWith claim exact (texts_of a stem) → ⊥
    not_refuted c r reads certified =
        let still = stays_told r.untouched in
        let same = one_net (bytes_of a input) r.exact exact (r.read.told a a told still) reads in
        first_failing_law.refuted claim exact (texts_of a stem) c
        (subst (λ N. IsFirstFailing claim N (texts_of a stem) c) same (r.failing a a told still)) certified

    each_certificate : (end : CheckEnd claim input stem call) → IsReadAs (bytes_of a input) exact → CertifiesWith claim exact (texts_of a stem)
        → IsQuietCheck claim input stem call → IsVerifiedOrNoMemory end ⊎ IsEndlessEnd end
    each_certificate (verified v) reads certified quiet = inl tt
    each_certificate (refuted c r) reads certified quiet = absurd (not_refuted c r reads certified)
    each_certificate (refused refusal r) reads certified quiet = absurd (not_refused refusal r reads)
    each_certificate (out_of_memory m) reads certified quiet = inl tt
    each_certificate (not_read f) reads certified quiet = absurd (not_quiet_check f quiet)
    each_certificate (endless e) reads certified quiet = inr tt

  with_an_end : (end : CheckEnd claim input stem call) (a : Held) → call.old.held ≡ Some a → AreCheckFilesHeld claim input stem a
      → AreShort stem a → ¬ IsEndlessEnd end
  with_an_end (endless e) a told held short is =
      let still = e.untouched.still_told a told held in
      omega (arith, short e.ending, e.long a a told still)
  with_an_end (verified v) a told held short is = is
  with_an_end (refuted c r) a told held short is = is
  with_an_end (refused refusal r) a told held short is = is
  with_an_end (out_of_memory m) a told held short is = is
  with_an_end (not_read f) a told held short is = is

pub checked_files_law : CheckedFilesLaw
checked_files_law = record {
  only_certificates = λ end is a b told tells. only_certificates end is a b told tells;
  each_certificate = λ end a exact told reads certified quiet.
      each_certificate a exact told (certified_files_held _ exact _ a certified reads) end reads certified quiet;
  with_an_end = λ end a told held short. with_an_end end a told held short;
}

-- ---- two runs joined

no_end : (claim : Claim) (input stem : Bytes) (call : Call) (end : CheckEnd claim input stem call)
    → IsVerifiedOrNoMemory end ⊎ IsEndlessEnd end → ¬ IsEndlessEnd end → IsVerifiedOrNoMemory end
no_end claim input stem call end (inl well) ends = well
no_end claim input stem call end (inr is) ends = absurd (ends is)

pub certificate-verifies : {claim : Claim} {input stem : Bytes} (held : Held) (exact : NetValue)
    → IsReadAs (bytes_of held input) exact → CertifiesWith claim exact (texts_of held stem) → VerifiesWith claim input stem held
certificate-verifies {claim} {input} {stem} held exact reads certified = λ call told short quiet end.
    let files : AreCheckFilesHeld claim input stem held = certified_files_held claim exact stem held certified reads in
    no_end claim input stem call end (each_certificate held exact told files end reads certified quiet) (with_an_end end held told files short)

-- a name that is no file of the bundle is none of the five
pub apart : (name stem : Bytes) (endings : List Ending) → list_any (λ ending. bytes_eq name (bundle_name stem ending)) endings ≡ false
    → AllByRecursion (λ e. bundle_name stem e ≢ name) endings
apart name stem [] none = tt
apart name stem (e ∷ endings) none =
    let parts = neither (bytes_eq name (bundle_name stem e)) _ none in (
      (λ same. let yes = (bytes_eq-Decides name (bundle_name stem e)).1 (sym same) in let no = parts.0 in cc),
      apart name stem endings parts.1,
    )
  where
    neither : (p q : Bool) → (p || q) ≡ false → (p ≡ false) × (q ≡ false)
    neither true q is = cc
    neither false q is = (refl, is)

other_word : (p q r : Bool) → (not p && (not q && not r)) ≡ true → r ≡ false
other_word true q r is = cc
other_word false true r is = cc
other_word false false true is = cc
other_word false false false is = refl

-- files of a bundle were written, and IN is none of them
module _ (claim : Claim) (input stem : Bytes) (words : IsTrue (are_file_words input stem)) (a b : Held) (text : Texts) (exact : NetValue)
    (written : b ≡ with_files a (bundle_files stem text)) where
  input_stays : get b input ≡ get a input
  input_stays =
      ap (λ h. get h input) written
      ∙ bundle_files-others a stem text input
      (apart input stem bundle_endings (other_word (is_empty_word input) (is_empty_word stem) (is_bundle_name stem input) words))

  reads_after : IsReadAs (bytes_of a input) exact → IsReadAs (bytes_of b input) exact
  reads_after reads = subst (λ found. IsReadAs (unwrap_or found []) exact) (sym input_stays) reads

  pub written_verifies : IsReadAs (bytes_of a input) exact → CertifiesWith claim exact (texts_of b stem) → VerifiesWith claim input stem b
  written_verifies reads certified = certificate-verifies b exact (reads_after reads) certified

-- the files of a bundle whose net is of an allowed size were written, and IN is none of them
pub bundle_verifies : (growth : Growth) (r : Request) (input stem : Bytes) (spent : Option SpentValue) (call : Call) → IsTrue (are_file_words input stem)
    → OfInput call input (λ text. IsReadAs text r.exact) → (w : BundleWritten r stem spent call) → IsOfAllowedSize growth r.exact w.result.net
    → WhereTold call.old call.new (λ a b. VerifiesWith (claim_of r.aim growth) input stem b)
bundle_verifies growth r input stem spent call words read w size a b told tells =
    written_verifies (claim_of r.aim growth) input stem words a b (bundle_text (synth_bundle r w.result)) r.exact (w.files.held a b told tells)
    (read.told a b told tells) (w.certificate growth size a b told tells)

pub joined_runs_law : JoinedRunsLaw
joined_runs_law aim input stem spent call words done =
    bundle_verifies Refused (simplifying aim done.exact) input stem spent call words done.read done.written
    (λ is. (done.written.right.tables, done.written.right.literals))

pub joined_task_law : JoinedTaskLaw
joined_task_law task aim names spent call words done a b told tells =
    let r = request_of task aim done.exact done.begin in (
      bundle_verifies Allowed r names.input names.stem spent call words done.read.input_read done.written (λ no. absurd (cc no)) a b told tells,
      λ tables literals.
          bundle_verifies Refused r names.input names.stem spent call words done.read.input_read done.written (λ is. (tables, literals)) a b told tells,
    )
