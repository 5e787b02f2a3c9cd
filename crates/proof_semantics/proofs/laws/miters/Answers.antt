use Rattle.proof_semantics.proofs.Miters.{miter_law}
use Rattle.proof_semantics.proofs.laws.miters.Goals as goal

pub returns : goal.returns
returns c = miter_law
