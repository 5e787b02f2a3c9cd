use Rattle.proof_semantics.proofs.Conflicts.{derivation_law}
use Rattle.proof_semantics.proofs.conflict_laws.derivations.Goals as goal

pub returns : goal.returns
returns c = derivation_law
