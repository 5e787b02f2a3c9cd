use Rattle.std.proofs.Common.{length}
use Rattle.chain_semantics.specs.Moves.{moves_of}
use Rattle.worked_rows.proofs.MovesLeft.{IsEndOf}
use Rattle.worked_rows.proofs.nets.move_of.Given as goal

abbrev pub invariant-loop-a_move : goal.invariant-loop-a_move
invariant-loop-a_move l = IsEndOf (moves_of l.net) l.moves

abbrev pub decreases-loop-a_move : goal.decreases-loop-a_move
decreases-loop-a_move l = length l.moves
