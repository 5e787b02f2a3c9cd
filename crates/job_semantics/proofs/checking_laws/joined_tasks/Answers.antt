use Rattle.job_semantics.proofs.CheckedFiles.{joined_task_law}
use Rattle.job_semantics.proofs.checking_laws.joined_tasks.Goals as goal

pub returns : goal.returns
returns c = joined_task_law
