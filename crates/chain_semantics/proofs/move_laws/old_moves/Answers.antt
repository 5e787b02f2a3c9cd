use Rattle.chain_semantics.proofs.OldMoves.{old-is, old-move, move-old, old-minimal}
use Rattle.chain_semantics.proofs.move_laws.old_moves.Goals as goal

pub returns : goal.returns
returns c = record { is = old-is; members = λ N move. (old-move N move, move-old N move); minimal = old-minimal }
