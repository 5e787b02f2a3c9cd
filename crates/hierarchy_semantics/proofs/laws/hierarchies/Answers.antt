use Rattle.hierarchy_semantics.proofs.Hierarchies.{accepted}
use Rattle.hierarchy_semantics.proofs.laws.hierarchies.Goals as goal

pub returns : goal.returns
returns c = accepted
