use Rattle.std.proofs.Common.{refl}
use Rattle.job_semantics.proofs.certificate_examples.clauses.Goals as goal

pub returns : goal.returns
returns c = record { numbers = refl; ports = refl; maximum = refl; attained = refl; formula = refl; log = refl; minimal = refl }
