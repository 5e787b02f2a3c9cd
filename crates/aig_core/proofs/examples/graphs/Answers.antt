use Rattle.std.proofs.Common.{refl}
use Rattle.aig_core.specs.Graph.{value_of, after_rounds}
use Rattle.aig_core.proofs.examples.graphs.Goals as goal

pub returns : goal.returns
unfolding value_of after_rounds
returns c = record { nodes = refl; constant = refl; second_input = refl; sum = refl; none = refl; one = refl; both = refl; turned_over = refl }
