use Rattle.semantics.proofs.Values.{value_law}
use Rattle.semantics.proofs.laws.values.Goals as goal

pub returns : goal.returns
returns c = value_law
