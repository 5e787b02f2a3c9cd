use Rattle.job_semantics.proofs.Certificates.{written_certifies}
use Rattle.job_semantics.proofs.certificate_laws.written.Goals as goal

pub returns : goal.returns
returns c = written_certifies
