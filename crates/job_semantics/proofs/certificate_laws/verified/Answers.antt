use Rattle.job_semantics.proofs.Certificates.{verified_law}
use Rattle.job_semantics.proofs.certificate_laws.verified.Goals as goal

pub returns : goal.returns
returns c = verified_law
