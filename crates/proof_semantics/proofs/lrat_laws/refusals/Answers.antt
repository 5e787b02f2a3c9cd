use Rattle.proof_semantics.proofs.LratRefusals.{refusal_law}
use Rattle.proof_semantics.proofs.lrat_laws.refusals.Goals as goal

pub returns : goal.returns
returns c = refusal_law
