-- What a trim job comes to, by its answer: the job checks the bundle and, where the certificate stands,
-- writes the trimmed log to OUT. The claim of a trim job is that of a check (`checked_claim`). Source: this
-- tool's own bundles; proof trimming by backward checking.
use Rattle.std.specs.Prelude.{◌≡◌, IsTrue, List}
use Rattle.semantics.specs.Texts.{Bytes}
use Rattle.semantics.specs.Net.{NetValue}
use Rattle.outside_semantics.specs.Outside.{WhereTold, bytes_of}
use Rattle.proof_semantics.specs.Formula.{Formula}
use Rattle.proof_semantics.specs.Logs.{LogItem, Refutes}
use Rattle.proof_semantics.specs.Lrat.{lrat_text}
use Rattle.proof_semantics.specs.Miter.{miter}
use Rattle.trim_semantics.specs.Trimmed.{IsTrimmed}
use Rattle.job_semantics.specs.declared.ending.Ending.TheVariants as file
use Rattle.job_semantics.specs.Certificate.{Texts, texts_of, OfBundle, OfBoth, IsRefutation, CertifiesWith}
use Rattle.job_semantics.specs.Input.{IsReadAs}
use Rattle.job_semantics.specs.Synthesis.{OfInput, IsQuiet}
use Rattle.job_semantics.specs.Checking.{CheckEnd, IsVerifiedEnd, AreCheckFilesSteady}
use Rattle.job_semantics.specs.Conversion.{OutputWritten, OutputCutShort}
use Rattle.job_semantics.specs.Call.{Call}
use Rattle.job_semantics.specs.declared.claim.Claim.{Claim}

-- one text is that of a log which refutes the formula; the other is that of this log, trimmed, which refutes
-- the formula too
pub record IsTrimmedText (f : Formula) (untrimmed text : Bytes) : Type 0 where
  pub log : List LogItem
  pub refuted : IsRefutation f untrimmed log
  pub short : List LogItem
  pub trimmed : IsTrimmed log short
  pub refutes : Refutes f.clauses short
  pub is : text ≡ lrat_text short

-- the texts of the bundle are a certificate, and the text is that of the log of `.lrat`, trimmed, which
-- refutes the miter at the maximum too
pub record IsTrimmedBundle (claim : Claim) (exact : NetValue) (text : Bytes)
    (texts : Texts) : Type 0 where
  pub certificate : CertifiesWith claim exact texts
  pub trimmed : OfBoth claim.metric claim.bound exact texts
      (λ M r. IsTrimmedText (miter exact M claim.metric r.maximum) (texts file.Log) text)

-- done: the certificate stands, and its trimmed log was written
pub record Trimmed (claim : Claim) (input stem output : Bytes) (call : Call) : Type 0 where
  pub exact : NetValue
  pub read : OfInput call input (λ text. IsReadAs text exact)
  pub text : Bytes
  pub bundle : OfBundle call.old call.new stem (IsTrimmedBundle claim exact text)
  pub written : OutputWritten output text call

-- the certificate stands, and its trimmed log could not be written
pub record TrimCutShort (claim : Claim) (input stem output : Bytes) (call : Call) : Type 0 where
  pub exact : NetValue
  pub read : OfInput call input (λ text. IsReadAs text exact)
  pub text : Bytes
  pub bundle : OfBundle call.old call.new stem (IsTrimmedBundle claim exact text)
  pub left : OutputCutShort output text call

-- The answers of a trim job, each with what it says. Where nothing was to be written, the job ends as a check
-- that is not verified.
pub data TrimEnd (claim : Claim) (input stem output : Bytes) (call : Call) : Type 0 where
  done : Trimmed claim input stem output call → TrimEnd claim input stem output call
  not_written : TrimCutShort claim input stem output call → TrimEnd claim input stem output call
  not_verified : (end : CheckEnd claim input stem call) → ¬ IsVerifiedEnd end
      → TrimEnd claim input stem output call

-- IN is accepted and no clause fails; where the files are not told both at entry and at exit, this counts as
-- true
abbrev pub CountsAsCertified : Claim → Bytes → Bytes → Call → Type 0
CountsAsCertified claim input stem call =
    WhereTold call.old call.new (λ a b. (exact : NetValue) × IsReadAs (bytes_of a input) exact
    × CertifiesWith claim exact (texts_of b stem))

-- a trim job needs the files of the check for reading and, where no clause fails, OUT for writing; each of
-- these is steady
pub record AreTrimFilesSteady (claim : Claim) (input stem output : Bytes)
    (call : Call) : Type 0 where
  pub read : AreCheckFilesSteady claim input stem call
  pub written : CountsAsCertified claim input stem call → IsTrue (call.old.steady_write output)

abbrev pub IsQuietTrim : Claim → Bytes → Bytes → Bytes → Call → Type 0
IsQuietTrim claim input stem output call
    = IsQuiet (AreTrimFilesSteady claim input stem output call) call
