use Rattle.proof_semantics.proofs.Refutations.{refutation_law}
use Rattle.proof_semantics.proofs.laws.refutations.Goals as goal

pub returns : goal.returns
returns c = refutation_law
