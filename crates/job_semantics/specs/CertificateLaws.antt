-- The laws about certificates, each the contract of a function without parameters.
use Rattle.std.specs.Prelude.{◌≡◌, ℕ, ◌^◌, ◌<◌, ◌≤◌, Bool, IsTrue, List, ◌∷◌, length}
use Rattle.std.specs.List.{AllByRecursion}
use Rattle.semantics.specs.declared.limits.TheConstants.{LARGEST_ERROR}
use Rattle.semantics.specs.Texts.{Bytes}
use Rattle.semantics.specs.Net.{NetValue, input_count, table_count, literal_count, HasSamePorts, IsSound}
use Rattle.semantics.specs.Net.{IsSmall}
use Rattle.semantics.specs.Error.{net_error, IsWithin}
use Rattle.semantics.specs.declared.metric.Metric.{Metric}
use Rattle.chain_semantics.specs.Minimality.{AreBrokenBySome}
use Rattle.chain_semantics.specs.Simplification.{IsAllowedMove}
use Rattle.outside_semantics.specs.Outside.{FilesTold}
use Rattle.outside_semantics.specs.WrittenFiles.{FilesWritten}
use Rattle.proof_semantics.specs.Logs.{Refutes, IsDerivation}
use Rattle.proof_semantics.specs.Miter.{miter}
use Rattle.job_semantics.specs.declared.certificate_clause.Clause.{Clause}
use Rattle.job_semantics.specs.Endings.{bundle_files}
use Rattle.job_semantics.specs.Report.{Report}
use Rattle.job_semantics.specs.Bundle.{BundleValue, bundle_text}
use Rattle.job_semantics.specs.Certificate.{Texts, OfBundle, moves_in, IsNetlist, IsReport, AreVectors}
use Rattle.job_semantics.specs.Certificate.{confirmed_claim}
use Rattle.job_semantics.specs.Certificate.{CertifiesWith, Certifies, IsFirstFailing, IsOfAllowedSize}
use Rattle.job_semantics.specs.declared.growth.Growth.{Growth}
use Rattle.job_semantics.specs.declared.claim.Claim.{Claim}

-- On every input the error of the approximate net is at most the report's maximum, which is within the bound
-- and attained at the witness. Where growth is refused, the approximate net has no more tables and no more
-- literals than the exact one. Where the report says so, no move of the approximate net that the report's
-- version knows is allowed.
pub record IsVerified (claim : Claim) (exact approx : NetValue) (r : Report) : Type 0 where
  pub ports : HasSamePorts exact approx
  pub safe : IsWithin claim.metric exact r.maximum approx
  pub within : r.maximum ≤ claim.bound
  pub width : length r.witness ≡ input_count exact
  pub attained : net_error claim.metric exact approx r.witness ≡ r.maximum
  pub size : IsOfAllowedSize claim.growth exact approx
  pub minimal : IsTrue r.minimal
      → AllByRecursion (λ m. ¬ IsAllowedMove claim.metric exact claim.bound approx m)
      (moves_in r.version approx)

-- The verified-bundle theorem: the texts of a certificate have one net, one report and one list of vectors,
-- and these are verified. A certificate of a net that may not be larger is one of a net that may be, and the
-- other way where the net is not larger.
pub record VerifiedLaw : Type 0 where
  pub read : (claim : Claim) (exact : NetValue) (texts : Texts) → CertifiesWith claim exact texts
      → (approx : NetValue) × (r : Report) × IsNetlist texts approx
      × IsReport claim.metric claim.bound exact texts r
  pub one_net : (texts : Texts) (N M : NetValue) → IsNetlist texts N → IsNetlist texts M → N ≡ M
  pub one_report : (metric : Metric) (bound : ℕ) (exact : NetValue) (texts : Texts) (r s : Report)
      → IsReport metric bound exact texts r → IsReport metric bound exact texts s → r ≡ s
  pub one_pool : (exact : NetValue) (texts : Texts) (witness : List Bool) (pool others : List (List Bool))
      → AreVectors exact texts witness pool → AreVectors exact texts witness others → pool ≡ others
  pub verified : (claim : Claim) (exact : NetValue) (texts : Texts)
      → IsSound exact → CertifiesWith claim exact texts
      → (approx : NetValue) (r : Report) → IsNetlist texts approx
      → IsReport claim.metric claim.bound exact texts r
      → IsVerified claim exact approx r
  pub weaker : (metric : Metric) (bound : ℕ) (exact : NetValue) (texts : Texts)
      → Certifies metric bound exact texts → CertifiesWith (confirmed_claim metric bound) exact texts
  pub not_larger : (metric : Metric) (bound : ℕ) (exact : NetValue) (texts : Texts) (approx : NetValue)
      → CertifiesWith (confirmed_claim metric bound) exact texts → IsNetlist texts approx
      → table_count approx ≤ table_count exact → literal_count approx ≤ literal_count exact
      → Certifies metric bound exact texts

-- a bundle of small nets that holds what it says, of a net that may be larger than the original or may not
pub record IsRightBundle (growth : Growth) (b : BundleValue) : Type 0 where
  pub exact_sound : IsSound b.exact
  pub exact_small : IsSmall b.exact
  pub approx_sound : IsSound b.approx
  pub approx_small : IsSmall b.approx
  pub ports : HasSamePorts b.exact b.approx
  pub bound : b.bound ≤ LARGEST_ERROR
  pub within : b.maximum ≤ b.bound
  pub width : length b.witness ≡ input_count b.exact
  pub attained : net_error b.metric b.exact b.approx b.witness ≡ b.maximum
  pub pool : AllByRecursion (λ x. length x ≡ input_count b.exact) b.pool
  pub goal : b.goal ≡ miter b.exact b.approx b.metric b.maximum
  pub variables : b.goal.variables < 2 ^ 31
  pub refutes : Refutes b.goal.clauses b.log
  pub derivation : IsDerivation b.goal b.log
  pub size : IsOfAllowedSize growth b.exact b.approx
  pub minimal : IsTrue b.minimal
      → AreBrokenBySome b.metric b.exact b.bound b.approx (b.witness ∷ b.pool) (moves_in b.version b.approx)

-- what such a bundle claims
abbrev pub bundle_claim : Growth → BundleValue → Claim
bundle_claim growth b = record { metric = b.metric; bound = b.bound; growth = growth }

-- the texts of such a bundle are a certificate
abbrev pub WrittenCertificateLaw : Type 0
WrittenCertificateLaw = (growth : Growth) (b : BundleValue) → IsRightBundle growth b
    → CertifiesWith (bundle_claim growth b) b.exact (bundle_text b)

-- texts with a clause that fails first are no certificate, and no other clause is the first that fails
pub record FirstFailingLaw : Type 0 where
  pub refuted : (claim : Claim) (exact : NetValue) (texts : Texts) (c : Clause)
      → IsFirstFailing claim exact texts c → ¬ CertifiesWith claim exact texts
  pub only : (claim : Claim) (exact : NetValue) (texts : Texts) (c d : Clause)
      → IsFirstFailing claim exact texts c → IsFirstFailing claim exact texts d → c ≡ d

-- The written-bundle theorem: once the files of such a bundle were written, the files that are held are a
-- certificate.
abbrev pub HeldCertificateLaw : Type 0
HeldCertificateLaw = (growth : Growth) (b : BundleValue) → IsRightBundle growth b → (stem : Bytes)
    (old new : FilesTold)
    → FilesWritten old new (bundle_files stem (bundle_text b))
    → OfBundle old new stem (CertifiesWith (bundle_claim growth b) b.exact)
