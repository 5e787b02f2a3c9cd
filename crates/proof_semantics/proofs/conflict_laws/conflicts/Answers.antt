use Rattle.proof_semantics.proofs.Conflicts.{conflict_law}
use Rattle.proof_semantics.proofs.conflict_laws.conflicts.Goals as goal

pub returns : goal.returns
returns c = conflict_law
