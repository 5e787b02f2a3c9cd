-- What the check of a bundle's files comes to.
use Rattle.std.specs.Prelude.{◌≡◌, ◌↔◌, ◌≤◌, Bool, false, IsTrue, List, ◌∷◌, length, Option, None, Some}
use Rattle.std.specs.Prelude.{Result, Ok, Err}
use Rattle.semantics.specs.Texts.{Bytes}
use Rattle.semantics.specs.Net.{NetValue, input_count, HasSamePorts}
use Rattle.semantics.specs.Error.{net_error}
use Rattle.outside_semantics.specs.Outside.{Held, FilesTold, Goes, Rose, IsReadOut, WhereTold, bytes_of}
use Rattle.outside_semantics.specs.Outside.{turn_budget}
use Rattle.file_reading.specs.declared.unread.Unread.{Unread}
use Rattle.file_reading.specs.declared.unread.Unread.TheVariants.{Fault, OutOfMemory, Endless}
use Rattle.file_reading.specs.Reading.{FilesStay, FileFailed}
use Rattle.proof_semantics.specs.Formula.{dimacs_text}
use Rattle.proof_semantics.specs.Logs.{LogItem}
use Rattle.proof_semantics.specs.Miter.{miter}
use Rattle.job_semantics.specs.declared.ending.Ending.{Ending}
use Rattle.job_semantics.specs.declared.ending.Ending.TheVariants as file
use Rattle.job_semantics.specs.declared.certificate_clause.Clause.{Clause}
use Rattle.job_semantics.specs.declared.claim.Claim.{Claim}
use Rattle.job_semantics.specs.Endings.{bundle_name}
use Rattle.job_semantics.specs.Report.{Report}
use Rattle.job_semantics.specs.Certificate.{Texts, texts_of, IsVectorsText, moves_in, AreCounts, OfBundle}
use Rattle.job_semantics.specs.Certificate.{AreNeededHeld, IsNetlist, IsReport, CertifiesWith, IsFirstFailing}
use Rattle.job_semantics.specs.Certificate.{IsNeededFor, clause_number}
use Rattle.chain_semantics.specs.Minimality.{AreBrokenBySome}
use Rattle.bundle_texts.specs.LogTold.{IsRefutingText}
use Rattle.bundle_texts.specs.LogJudged.{IsOfRefutation}
use Rattle.bundle_texts.specs.declared.report_reading.ReportRead.{ReportRead}
use Rattle.bundle_texts.specs.Reading.{report_read}
use Rattle.bundle.specs.Loading.{StemClaim, IsCertificateWith}
use Rattle.bundle.specs.declared.claim.Claimed.{Claimed}
use Rattle.bundle.specs.declared.judged.Judged.{Judged}
use Rattle.bundle.specs.declared.judged.Judged.TheVariants.{Good, Failing}
use Rattle.bundle.specs.declared.verdict.Verdict.{Verdict}
use Rattle.bundle.specs.declared.verdict.Verdict.TheVariants.{Verified, Refuted}

-- no clause fails, or this one is the first that does
abbrev pub IsFirstFault : Claim → NetValue → Texts → Option Clause → Type 0
IsFirstFault claim exact texts None = CertifiesWith claim exact texts
IsFirstFault claim exact texts (Some c) = IsFirstFailing claim exact texts c

abbrev pub verdict_of : Option Clause → Verdict
verdict_of None = Verified
verdict_of (Some c) = Refuted (clause_number c)

-- Calls changed no file. Where K holds of the texts and the files that the verdict needs are held, what was
-- told is still told.
pub record FilesKept (c : StemClaim) (K : Texts → Type 0) (old new : FilesTold) : Type 0 where
  pub goes : Goes old new
  pub stays : WhereTold old new (λ a b. b ≡ a)
  pub still_told : (a : Held) → old.held ≡ Some a → K (texts_of a c.stem)
      → AreNeededHeld c.claim c.exact c.stem a → new.held ≡ Some a

-- the verdict by the first clause that fails
pub record IsVerdict (c : StemClaim) (old new : FilesTold) (verdict : Verdict) : Type 0 where
  pub failing : Option Clause
  pub is : verdict ≡ verdict_of failing
  pub judged : OfBundle old new c.stem (λ texts. IsFirstFault c.claim c.exact texts failing)

-- why there is no verdict, where K holds of the texts: a needed file could not be read, or goes on past the
-- budget of turns
abbrev pub IsCause : StemClaim → (Texts → Type 0) → FilesTold → FilesTold → Unread → Type 0
IsCause c K old new Fault =
    Rose old.faults new.faults
    × ((ending : Ending) × OfBundle old new c.stem
    (λ texts. K texts → IsNeededFor c.claim c.exact texts ending)
    × (old.steady_read (bundle_name c.stem ending) ≡ false))
IsCause c K old new OutOfMemory = Unit {0}
IsCause c K old new Endless =
    (ending : Ending) × OfBundle old new c.stem
    (λ texts. K texts → IsNeededFor c.claim c.exact texts ending)
    × IsReadOut old new (bundle_name c.stem ending)
    × OfBundle old new c.stem (λ texts. turn_budget ≤ length (texts ending))

-- the first clause that fails, if one does
abbrev pub failing_of : {L : Type 0} → Judged L → Option Clause
failing_of (Good goal kept) = None
failing_of (Failing c) = Some c

module _ {L : Type 0} (holds : L → List LogItem → Type 0) where
  -- the certificate's formula and what was kept of its log, or the first clause that fails
  abbrev pub IsJudged : Claim → NetValue → Texts → Judged L → Type 0
  IsJudged claim exact texts (Good goal kept) = (log : List LogItem) × holds kept log
      × IsCertificateWith claim exact texts goal log
  IsJudged claim exact texts (Failing c) = IsFirstFailing claim exact texts c

  -- whatever the files tell, the log that was kept refutes the formula
  abbrev pub IsProved : Judged L → Type 0
  IsProved (Good goal kept) = IsOfRefutation holds goal.clauses kept
  IsProved (Failing c) = Unit {0}

  -- what the check answers, where K holds of the texts
  abbrev pub Answers : StemClaim → (Texts → Type 0) → FilesTold → FilesTold
      → Result (Judged L) Unread → Type 0
  Answers c K old new (Ok judged) =
      FilesKept c K old new × IsProved judged
      × OfBundle old new c.stem (λ texts. K texts → IsJudged c.claim c.exact texts judged)
  Answers c K old new (Err reason) = FilesKept c K old new × IsCause c K old new reason

-- a file was read to its end, or as far as Q of its bytes needs
pub record TextRead (old new : FilesTold) (name : Bytes) (Q : Bytes → Type 0) : Type 0 where
  pub stay : FilesStay old new name
  pub content : WhereTold old new (λ a b. Q (bytes_of a name))

-- why a file was not read
abbrev pub TextUnread : FilesTold → FilesTold → Bytes → Unread → Type 0
TextUnread old new name Fault = FileFailed old new name
TextUnread old new name OutOfMemory = FilesStay old new name
TextUnread old new name Endless = FilesStay old new name × IsReadOut old new name
    × WhereTold old new (λ a b. turn_budget ≤ length (bytes_of a name))

-- ---- what is known once the clauses that speak of a file hold

abbrev pub NothingKnown : Texts → Type 0
NothingKnown texts = Unit {0}

pub record NetKnown (exact M : NetValue) (texts : Texts) : Type 0 where
  pub netlist : IsNetlist texts M
  pub ports : HasSamePorts exact M

-- a net, another that is compared with it, and what is claimed of the latter
pub record ClaimedValue : Type 0 where
  pub claim : Claim
  pub exact : NetValue
  pub approx : NetValue

abbrev pub claimed_by : Claimed → ClaimedValue
claimed_by c = record { claim = c.claim; exact = c.nets.now.exact; approx = c.nets.now.approx }

-- what was read of a report, for the metric and the bound of the claim
abbrev pub claimed_report : Claim → ReportRead → Report
claimed_report claim read = report_read claim.metric claim.bound read

pub record ReportKnown (c : ClaimedValue) (r : Report) (texts : Texts) : Type 0 where
  pub net : NetKnown c.exact c.approx texts
  pub report : IsReport c.claim.metric c.claim.bound c.exact texts r
  pub within : r.maximum ≤ c.claim.bound

-- the text is that of vectors with the witness first, and `shown` says whether they show what the report says
-- of the moves, where the clause on the counts holds
pub record AreVectorsJudged (c : ClaimedValue) (r : Report) (shown : Bool) (text : Bytes) : Type 0 where
  pub pool : List (List Bool)
  pub read : IsVectorsText (input_count c.exact) text r.witness pool
  pub decided : AreCounts c.claim.growth c.exact c.approx r
      → IsTrue shown ↔ (IsTrue r.minimal
      → AreBrokenBySome c.claim.metric c.exact c.claim.bound c.approx (r.witness ∷ pool)
      (moves_in r.version c.approx))

pub record WitnessKnown (c : ClaimedValue) (r : Report) (shown : Bool) (texts : Texts) : Type 0 where
  pub report : ReportKnown c r texts
  pub vectors : AreVectorsJudged c r shown (texts file.Vectors)
  pub attained : net_error c.claim.metric c.exact c.approx r.witness ≡ r.maximum

pub record FormulaKnown (c : ClaimedValue) (r : Report) (shown : Bool) (texts : Texts) : Type 0 where
  pub witness : WitnessKnown c r shown texts
  pub formula : texts file.Formula ≡ dimacs_text (miter c.exact c.approx c.claim.metric r.maximum)

pub record LogKnown (c : ClaimedValue) (r : Report) (shown : Bool) (texts : Texts) : Type 0 where
  pub formula : FormulaKnown c r shown texts
  pub refutation : IsRefutingText (miter c.exact c.approx c.claim.metric r.maximum).clauses (texts file.Log)
