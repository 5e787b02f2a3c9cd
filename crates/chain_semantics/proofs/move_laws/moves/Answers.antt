use Rattle.chain_semantics.proofs.MoveDependence.{depends-path}
use Rattle.chain_semantics.proofs.MoveMembers.{move_is, moves_hold}
use Rattle.chain_semantics.proofs.MovedNets.{moved-keeps, moved-lowers}
use Rattle.chain_semantics.proofs.move_laws.moves.Goals as goal

pub returns : goal.returns
returns c = record {
  dependence = depends-path;
  members = λ N move acyclic. (move_is N acyclic move, moves_hold N acyclic move);
  keeps = λ N move sound c. moved-keeps N move sound (move_is N sound.acyclic move c);
  lowers = λ N move sound lean c. moved-lowers N move sound lean (move_is N sound.acyclic move c);
}
