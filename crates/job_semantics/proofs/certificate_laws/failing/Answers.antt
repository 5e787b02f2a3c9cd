use Rattle.job_semantics.proofs.Certificates.{first_failing_law}
use Rattle.job_semantics.proofs.certificate_laws.failing.Goals as goal

pub returns : goal.returns
returns c = first_failing_law
