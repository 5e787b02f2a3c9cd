use Rattle.std.specs.Prelude.{◌&&◌}
use Rattle.aig_core.specs.Graph.{literal_value}
use Rattle.aig_core.proofs.Growing.{node_stays, literal_stays, truth_from_value}
use Rattle.aig_core.proofs.laws.growth.Goals as goal

pub returns : goal.returns
returns c = record {
  nodes = λ old new x n is_old is_new grows low. node_stays old new x is_old is_new grows n low;
  literals = λ old new x l is_old is_new grows low. literal_stays old new x is_old is_new grows l low;
  conjunction = λ g x a b r is both. truth_from_value g x r (λ _ v. literal_value v a && literal_value v b) is both.is;
}
