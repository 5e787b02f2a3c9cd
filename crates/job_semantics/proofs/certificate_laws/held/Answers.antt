use Rattle.job_semantics.proofs.Certificates.{held_certificate_law}
use Rattle.job_semantics.proofs.certificate_laws.held.Goals as goal

pub returns : goal.returns
returns c = held_certificate_law
