-- The laws about the words of jobs and about checks of told files, each the contract of a function without
-- parameters.
use Rattle.std.specs.Prelude.{◌≡◌, ◌⊎◌, ℕ, ◌≤◌, IsTrue, Option, Some, List, [], ◌∷◌, codes}
use Rattle.semantics.specs.Texts.{Bytes}
use Rattle.semantics.specs.Net.{NetValue, table_count, literal_count}
use Rattle.semantics.specs.declared.metric.Metric.{Metric}
use Rattle.outside_semantics.specs.Outside.{Held, WhereTold, bytes_of}
use Rattle.proof_semantics.specs.Queries.{SpentValue}
use Rattle.job_semantics.specs.declared.task.Task.{Task}
use Rattle.job_semantics.specs.declared.growth.Growth.TheVariants.{Allowed}
use Rattle.job_semantics.specs.Job.{synth, against, check, confirm, flat, aag, blif, trim, are_file_words}
use Rattle.job_semantics.specs.Job.{TaskNames, are_task_names}
use Rattle.job_semantics.specs.Job.{are_conversion_words, are_trim_words, job_of}
use Rattle.job_semantics.specs.Input.{IsReadAs}
use Rattle.job_semantics.specs.Certificate.{texts_of, CertifiesWith}
use Rattle.job_semantics.specs.Synthesis.{SynthDone, claim_of}
use Rattle.job_semantics.specs.Checking.{AreCheckFilesHeld, CheckEnd, IsQuietCheck, AreShort, IsVerifiedEnd}
use Rattle.job_semantics.specs.Checking.{IsEndlessEnd, IsVerifiedOrNoMemory, VerifiesWith, Verifies}
use Rattle.job_semantics.specs.SecondNetlist.{TaskDone}
use Rattle.proof_semantics.specs.declared.constraint.Constraint.{Constraint}
use Rattle.job_semantics.specs.Call.{Call}
use Rattle.job_semantics.specs.declared.claim.Claim.{Claim}

-- Where words are a synth, a check or a confirm job, IN and STEM are not empty, and IN is no file of the
-- bundle. Where they are a certify or a refine job, the same holds of the second netlist. To refine IN itself
-- is to simplify it: the words `refine` with one name twice are the job of `synth`. Where they are a
-- conversion, IN and OUT are not empty and differ. Where they are a trim job, IN, STEM and OUT are as in both
-- of these, and OUT is no file of the bundle.
pub record FileWordsLaw : Type 0 where
  pub synthesis : (words : List Bytes) (aim : Constraint) (input stem : Bytes)
      → job_of words ≡ Some (synth aim input stem) → IsTrue (are_file_words input stem)
  pub checking : (words : List Bytes) (metric : Metric) (bound : ℕ) (input stem : Bytes)
      → job_of words ≡ Some (check metric bound input stem) → IsTrue (are_file_words input stem)
  pub confirming : (words : List Bytes) (metric : Metric) (bound : ℕ) (input stem : Bytes)
      → job_of words ≡ Some (confirm metric bound input stem) → IsTrue (are_file_words input stem)
  pub tasks : (words : List Bytes) (task : Task) (aim : Constraint) (names : TaskNames)
      → job_of words ≡ Some (against task aim names) → IsTrue (are_task_names names)
  pub refined_itself : (metric bound conflicts input stem : Bytes)
      → job_of (codes "refine" ∷ metric ∷ bound ∷ conflicts ∷ input ∷ input ∷ stem ∷ [])
      ≡ job_of (codes "synth" ∷ metric ∷ bound ∷ conflicts ∷ input ∷ stem ∷ [])
  pub flat_conversion : (words : List Bytes) (input output : Bytes)
      → job_of words ≡ Some (flat input output) → IsTrue (are_conversion_words input output)
  pub conversion : (words : List Bytes) (input output : Bytes)
      → job_of words ≡ Some (aag input output) → IsTrue (are_conversion_words input output)
  pub blif_conversion : (words : List Bytes) (input output : Bytes)
      → job_of words ≡ Some (blif input output) → IsTrue (are_conversion_words input output)
  pub trimming : (words : List Bytes) (metric : Metric) (bound : ℕ) (input stem output : Bytes)
      → job_of words ≡ Some (trim metric bound input stem output) → IsTrue (are_trim_words input stem output)

-- A check or a confirm job that is verified found a certificate. A quiet one over files that are told, whose
-- texts are a certificate for the net of IN, is verified unless memory is wanting or a file goes on without
-- an end. Where the needed files are held, a file goes on without an end only if some file of the bundle has
-- at least 2^40 bytes.
pub record CheckedFilesLaw : Type 0 where
  pub only_certificates : {claim : Claim} {input stem : Bytes} {call : Call}
      (end : CheckEnd claim input stem call) → IsVerifiedEnd end
      → WhereTold call.old call.new (λ a b. (exact : NetValue) → IsReadAs (bytes_of a input) exact
      → CertifiesWith claim exact (texts_of b stem))
  pub each_certificate : {claim : Claim} {input stem : Bytes} {call : Call}
      (end : CheckEnd claim input stem call) (a : Held) (exact : NetValue) → call.old.held ≡ Some a
      → IsReadAs (bytes_of a input) exact → CertifiesWith claim exact (texts_of a stem)
      → IsQuietCheck claim input stem call
      → IsVerifiedOrNoMemory end ⊎ IsEndlessEnd end
  pub with_an_end : {claim : Claim} {input stem : Bytes} {call : Call}
      (end : CheckEnd claim input stem call) (a : Held) → call.old.held ≡ Some a
      → AreCheckFilesHeld claim input stem a
      → AreShort stem a → ¬ IsEndlessEnd end

-- Two runs joined: a synthesis that is done, over files that are told, leaves a bundle that verifies.
abbrev pub JoinedRunsLaw : Type 0
JoinedRunsLaw = (aim : Constraint) (input stem : Bytes) (spent : Option SpentValue) (call : Call)
    → IsTrue (are_file_words input stem) → SynthDone aim input stem spent call
    → WhereTold call.old call.new (λ a b. Verifies aim.metric aim.bound input stem b)

-- So does a task that is done, over files that are told: what it leaves is confirmed and, where its net is
-- not larger than the original, verifies.
abbrev pub JoinedTaskLaw : Type 0
JoinedTaskLaw = (task : Task) (aim : Constraint) (names : TaskNames) (spent : Option SpentValue)
    (call : Call)
    → IsTrue (are_file_words names.input names.stem) → (done : TaskDone task aim names spent call)
    → WhereTold call.old call.new
    (λ a b. VerifiesWith (claim_of aim Allowed) names.input names.stem b
    × (table_count done.written.result.net ≤ table_count done.exact
    → literal_count done.written.result.net ≤ literal_count done.exact
    → Verifies aim.metric aim.bound names.input names.stem b))
