-- What a check or a confirm job comes to once IN was read as a net, by its answer; the answers to IN itself
-- are those of a synth job. A check job refuses a net that is larger than the original, and a confirm job
-- allows it. Source: this tool's own bundles.
use Rattle.std.specs.Prelude.{◌≡◌, ◌⊎◌, ℕ, ◌<◌, ◌≤◌, false, IsTrue, length, Some}
use Rattle.std.specs.FinMap.{contains_key}
use Rattle.semantics.specs.Texts.{Bytes}
use Rattle.semantics.specs.Net.{NetValue}
use Rattle.semantics.specs.declared.metric.Metric.{Metric}
use Rattle.blif_semantics.specs.Reading.{Refusal}
use Rattle.outside_semantics.specs.Outside.{Held, Goes, Rose, WhereTold, IsReadOut}
use Rattle.outside_semantics.specs.Outside.{turn_budget, bytes_of}
use Rattle.job_semantics.specs.declared.certificate_clause.Clause.{Clause}
use Rattle.job_semantics.specs.declared.ending.Ending.{Ending}
use Rattle.job_semantics.specs.Certificate.{Texts, texts_of, OfBundle, IsNetlist, IsReport, CertifiesWith}
use Rattle.job_semantics.specs.Certificate.{checked_claim}
use Rattle.job_semantics.specs.Certificate.{IsFirstFailing, IsNeededFor, AreNeededHeld}
use Rattle.job_semantics.specs.CertificateLaws.{IsVerified}
use Rattle.job_semantics.specs.Endings.{bundle_name}
use Rattle.job_semantics.specs.Input.{IsReadAs, IsRefusedFor}
use Rattle.job_semantics.specs.Report.{Report}
use Rattle.job_semantics.specs.Synthesis.{OfInput, InputRefused, IsQuiet}
use Rattle.job_semantics.specs.Call.{Call}
use Rattle.job_semantics.specs.declared.claim.Claim.{Claim}

-- each file that the job needs is held: IN and, where IN is accepted, the files that are needed for the
-- verdict
pub record AreCheckFilesHeld (claim : Claim) (input stem : Bytes) (held : Held) : Type 0 where
  pub input_held : IsTrue (contains_key held input)
  pub bundle_held : (exact : NetValue) → IsReadAs (bytes_of held input) exact
      → AreNeededHeld claim exact stem held

-- No file changed, no count of faults fell, no steady name was lost, and the sink tells what it told. Where
-- the files that are needed are held, what was told is still told.
pub record IsLeftAlone (claim : Claim) (input stem : Bytes) (call : Call) : Type 0 where
  pub goes : Goes call.old call.new
  pub files : WhereTold call.old call.new (λ a b. b ≡ a)
  pub still_told : (a : Held) → call.old.held ≡ Some a → AreCheckFilesHeld claim input stem a
      → call.new.held ≡ Some a
  pub sink : call.says ≡ call.said

-- on every input the error of the bundle's net against the original is at most the report's maximum, which
-- is within the bound and attained at the report's witness; where growth is refused, the bundle's net has no
-- more tables and no more literals than the original
pub record ShowsItsBound (claim : Claim) (exact : NetValue) (texts : Texts) : Type 0 where
  pub approx : NetValue
  pub report : Report
  pub netlist : IsNetlist texts approx
  pub reported : IsReport claim.metric claim.bound exact texts report
  pub verified : IsVerified claim exact approx report

-- verified: the texts are a certificate, and this is what it shows
pub record CheckVerified (claim : Claim) (input stem : Bytes) (call : Call) : Type 0 where
  pub untouched : IsLeftAlone claim input stem call
  pub exact : NetValue
  pub read : OfInput call input (λ text. IsReadAs text exact)
  pub certificate : OfBundle call.old call.new stem (CertifiesWith claim exact)
  pub shows : OfBundle call.old call.new stem (ShowsItsBound claim exact)

-- refuted: this clause is the first that fails
pub record CheckRefuted (c : Clause) (claim : Claim) (input stem : Bytes) (call : Call) : Type 0 where
  pub untouched : IsLeftAlone claim input stem call
  pub exact : NetValue
  pub read : OfInput call input (λ text. IsReadAs text exact)
  pub failing : OfBundle call.old call.new stem (λ texts. IsFirstFailing claim exact texts c)

-- A check job needs the file of this ending: IN is accepted, and the file is needed for the verdict. Where
-- the files are not told both at entry and at exit, IN counts as accepted and no clause as failing.
abbrev pub IsNeeded : Claim → Bytes → Bytes → Call → Ending → Type 0
IsNeeded claim input stem call ending =
    WhereTold call.old call.new (λ a b. (exact : NetValue) × IsReadAs (bytes_of a input) exact
    × IsNeededFor claim exact (texts_of b stem) ending)

-- a fault came while a needed file was read, and that file is not steady
pub record CheckReadFault (claim : Claim) (input stem : Bytes) (call : Call) : Type 0 where
  pub untouched : IsLeftAlone claim input stem call
  pub rose : Rose call.old.faults call.new.faults
  pub not_steady :
      (call.old.steady_read input ≡ false)
      ⊎ ((ending : Ending) × IsNeeded claim input stem call ending
      × (call.old.steady_read (bundle_name stem ending) ≡ false))

-- A needed file goes on past the budget of turns: in this call there were at least `turn_budget` read turns
-- on the file, each of which asked for at most 65,536 bytes and gave at least one. So, where the files are
-- told, the file has at least `turn_budget` bytes.
pub record CheckEndless (claim : Claim) (input stem : Bytes) (call : Call) : Type 0 where
  pub untouched : IsLeftAlone claim input stem call
  pub exact : NetValue
  pub read : OfInput call input (λ text. IsReadAs text exact)
  pub ending : Ending
  pub needed : IsNeeded claim input stem call ending
  pub read_out : IsReadOut call.old call.new (bundle_name stem ending)
  pub long : OfBundle call.old call.new stem (λ texts. turn_budget ≤ length (texts ending))

-- the files that the job needs can be read
pub record AreCheckFilesSteady (claim : Claim) (input stem : Bytes) (call : Call) : Type 0 where
  pub read : IsTrue (call.old.steady_read input)
  pub bundle : (ending : Ending) → IsNeeded claim input stem call ending
      → IsTrue (call.old.steady_read (bundle_name stem ending))

abbrev pub IsQuietCheck : Claim → Bytes → Bytes → Call → Type 0
IsQuietCheck claim input stem call = IsQuiet (AreCheckFilesSteady claim input stem call) call

-- The answers of a check or a confirm job, each with what it says.
pub data CheckEnd (claim : Claim) (input stem : Bytes) (call : Call) : Type 0 where
  verified : CheckVerified claim input stem call → CheckEnd claim input stem call
  refuted : (c : Clause) → CheckRefuted c claim input stem call → CheckEnd claim input stem call
  refused : (refusal : Refusal) → InputRefused (λ text. IsRefusedFor text refusal) input call
      → CheckEnd claim input stem call
  out_of_memory : IsLeftAlone claim input stem call → CheckEnd claim input stem call
  not_read : CheckReadFault claim input stem call → CheckEnd claim input stem call
  endless : CheckEndless claim input stem call → CheckEnd claim input stem call

-- each file of the bundle has fewer than 2^40 bytes
abbrev pub AreShort : Bytes → Held → Type 0
AreShort stem held = (ending : Ending) → length (texts_of held stem ending) < turn_budget

abbrev pub IsVerifiedEnd : {claim : Claim} {input stem : Bytes} {call : Call} → CheckEnd claim input stem call
    → Type 0
IsVerifiedEnd (verified v) = Unit {0}
IsVerifiedEnd (refuted c r) = ⊥
IsVerifiedEnd (refused refusal r) = ⊥
IsVerifiedEnd (out_of_memory left) = ⊥
IsVerifiedEnd (not_read fault) = ⊥
IsVerifiedEnd (endless e) = ⊥

abbrev pub IsEndlessEnd : {claim : Claim} {input stem : Bytes} {call : Call} → CheckEnd claim input stem call
    → Type 0
IsEndlessEnd (verified v) = ⊥
IsEndlessEnd (refuted c r) = ⊥
IsEndlessEnd (refused refusal r) = ⊥
IsEndlessEnd (out_of_memory left) = ⊥
IsEndlessEnd (not_read fault) = ⊥
IsEndlessEnd (endless e) = Unit {0}

-- verified, unless memory is wanting
abbrev pub IsVerifiedOrNoMemory : {claim : Claim} {input stem : Bytes} {call : Call}
    → CheckEnd claim input stem call → Type 0
IsVerifiedOrNoMemory (verified v) = Unit {0}
IsVerifiedOrNoMemory (refuted c r) = ⊥
IsVerifiedOrNoMemory (refused refusal r) = ⊥
IsVerifiedOrNoMemory (out_of_memory left) = Unit {0}
IsVerifiedOrNoMemory (not_read fault) = ⊥
IsVerifiedOrNoMemory (endless e) = ⊥

-- A bundle that verifies: where each file of the bundle has fewer than 2^40 bytes, each quiet check of these
-- files, or each quiet confirm job over them, is verified, unless memory is wanting.
abbrev pub VerifiesWith : Claim → Bytes → Bytes → Held → Type 0
VerifiesWith claim input stem held = (call : Call) → call.old.held ≡ Some held → AreShort stem held
    → IsQuietCheck claim input stem call
    → (end : CheckEnd claim input stem call) → IsVerifiedOrNoMemory end

abbrev pub Verifies : Metric → ℕ → Bytes → Bytes → Held → Type 0
Verifies metric bound = VerifiesWith (checked_claim metric bound)
