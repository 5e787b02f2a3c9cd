use Rattle.trim_semantics.proofs.Again.{trimmed_law}
use Rattle.trim_semantics.proofs.trim_laws.trimmed_logs.Goals as goal

pub returns : goal.returns
returns c = trimmed_law
