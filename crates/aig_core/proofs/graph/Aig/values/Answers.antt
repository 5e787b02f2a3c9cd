use Rattle.aig_core.proofs.Rounds.{value_law}
use Rattle.aig_core.proofs.graph.Aig.values.Goals as goal

pub returns : goal.returns
returns c = λ x. value_law c.args.self.now x c.is_graph.ensures.graph
