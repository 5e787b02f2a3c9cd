use Rattle.proof_semantics.proofs.NetValues.{goal_law}
use Rattle.proof_semantics.proofs.laws.goals.Goals as goal

pub returns : goal.returns
returns c = goal_law
