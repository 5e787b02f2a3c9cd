-- What a bundle is loaded as.
use Rattle.std.specs.Prelude.{◌≡◌, List}
use Rattle.semantics.specs.Texts.{Bytes}
use Rattle.semantics.specs.Net.{NetValue}
use Rattle.outside_semantics.specs.Outside.{FilesTold}
use Rattle.proof_semantics.specs.Formula.{Formula}
use Rattle.proof_semantics.specs.Logs.{LogItem, Refutes}
use Rattle.proof_semantics.specs.Miter.{miter}
use Rattle.job_semantics.specs.declared.certificate_clause.Clause.{Clause}
use Rattle.job_semantics.specs.declared.ending.Ending.TheVariants as file
use Rattle.job_semantics.specs.declared.claim.Claim.{Claim}
use Rattle.job_semantics.specs.Certificate.{Texts, OfBundle, OfBoth, IsRefutation, CertifiesWith}
use Rattle.job_semantics.specs.Certificate.{IsFirstFailing, clause_number}
use Rattle.bundle.specs.declared.judged.Judged.{Judged}
use Rattle.bundle.specs.declared.judged.Judged.TheVariants as judged
use Rattle.bundle.specs.declared.loaded.Loaded.{Loaded}
use Rattle.bundle.specs.declared.loaded.Loaded.TheVariants.{Good, Refuted}

-- what the bundle of a stem claims of its net against another
pub record StemClaim : Type 0 where
  pub claim : Claim
  pub exact : NetValue
  pub stem : Bytes

abbrev pub of_stem : Claim → NetValue → Bytes → StemClaim
of_stem claim exact stem = record { claim = claim; exact = exact; stem = stem }

-- the texts are a certificate of the claim, with this miter as its formula and these items as its log
pub record IsCertificateWith (claim : Claim) (exact : NetValue) (texts : Texts) (goal : Formula)
    (log : List LogItem) : Type 0 where
  pub certifies : CertifiesWith claim exact texts
  pub parts : OfBoth claim.metric claim.bound exact texts
      (λ M r. (goal ≡ miter exact M claim.metric r.maximum)
      × IsRefutation (miter exact M claim.metric r.maximum) (texts file.Log) log)

-- a certificate all items of whose log were kept, or the number of the first clause that fails
abbrev pub loaded_of : Judged (List LogItem) → Loaded
loaded_of (judged.Good goal log) = Good goal log
loaded_of (judged.Failing c) = Refuted (clause_number c)

-- What was loaded, where the files are told: a certificate's formula and log, or the first clause that fails.
-- Whether or not the files are told, the log refutes the formula.
abbrev pub IsLoaded : StemClaim → FilesTold → FilesTold → Loaded → Type 0
IsLoaded s old new (Good goal log) =
    Refutes goal.clauses log
    × OfBundle old new s.stem (λ texts. IsCertificateWith s.claim s.exact texts goal log)
IsLoaded s old new (Refuted number) =
    (c : Clause) × (number ≡ clause_number c)
    × OfBundle old new s.stem (λ texts. IsFirstFailing s.claim s.exact texts c)
