use Rattle.aig_core.proofs.Rounds.{value_law}
use Rattle.aig_core.proofs.laws.values.Goals as goal

pub returns : goal.returns
returns c = value_law
