use Rattle.job_semantics.proofs.CheckedFiles.{joined_runs_law}
use Rattle.job_semantics.proofs.checking_laws.joined_runs.Goals as goal

pub returns : goal.returns
returns c = joined_runs_law
