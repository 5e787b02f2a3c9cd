use Rattle.semantics.proofs.Grounding.{next-value}
use Rattle.semantics.proofs.laws.evaluation.Goals as goal

pub returns : goal.returns
returns c = next-value
