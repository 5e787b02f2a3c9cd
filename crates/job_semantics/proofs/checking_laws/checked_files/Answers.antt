use Rattle.job_semantics.proofs.CheckedFiles.{checked_files_law}
use Rattle.job_semantics.proofs.checking_laws.checked_files.Goals as goal

pub returns : goal.returns
returns c = checked_files_law
