use Rattle.proof_semantics.proofs.LratDerivations.{derivation_text_law}
use Rattle.proof_semantics.proofs.lrat_laws.derivations.Goals as goal

pub returns : goal.returns
returns c = derivation_text_law
