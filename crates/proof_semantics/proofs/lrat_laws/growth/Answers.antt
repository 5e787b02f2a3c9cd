use Rattle.proof_semantics.proofs.LratGrowth.{growth_law}
use Rattle.proof_semantics.proofs.lrat_laws.growth.Goals as goal

pub returns : goal.returns
returns c = growth_law
