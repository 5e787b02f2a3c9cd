use Rattle.chain_semantics.specs.Moves.{old_moves_of}
use Rattle.net_moves.proofs.moves.old_moves.Goals as goal

pub returns : goal.returns
unfolding old_moves_of
returns c = c.moves_with.ensures
