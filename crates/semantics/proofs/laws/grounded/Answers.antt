use Rattle.semantics.proofs.Ordered.{acyclic_from_steps}
use Rattle.semantics.proofs.laws.grounded.Goals as goal

pub returns : goal.returns
returns c = acyclic_from_steps
