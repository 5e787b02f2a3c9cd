use Rattle.chain_semantics.specs.Moves.{moves_of}
use Rattle.net_moves.proofs.moves.moves.Goals as goal

pub returns : goal.returns
unfolding moves_of
returns c = c.moves_with.ensures
