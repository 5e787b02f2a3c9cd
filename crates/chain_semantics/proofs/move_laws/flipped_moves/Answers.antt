use Rattle.chain_semantics.proofs.MoveMembers.{move_is}
use Rattle.chain_semantics.proofs.MovedFlips.{move-left, move-changed, move-broken}
use Rattle.chain_semantics.proofs.move_laws.flipped_moves.Goals as goal

pub returns : goal.returns
returns c = record {
  left = λ N move x sound c. move-left N move x sound (move_is N sound.acyclic move c);
  changed = λ N move x sound c. move-changed N move x sound (move_is N sound.acyclic move c);
  broken = λ metric exact bound N move x sound c. move-broken N move x sound (move_is N sound.acyclic move c) metric exact bound;
}
