use Rattle.std.proofs.Common.{refl}
use Rattle.aig_core.specs.Graph.{value_of, after_rounds}
use Rattle.literal_sums.proofs.examples.adders.Goals as goal

pub returns : goal.returns
unfolding value_of after_rounds
returns c = record { none = refl; one = refl; other = refl; both = refl }
