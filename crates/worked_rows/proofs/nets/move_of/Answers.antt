use Rattle.chain_semantics.specs.Moves.{moves_of}
use Rattle.worked_rows.proofs.MovesLeft.{end-first, end-next, end-member}
use Rattle.worked_rows.proofs.nets.move_of.Goals as goal

pub loop-a_move-init : goal.loop-a_move-init
loop-a_move-init c = end-first (moves_of c.args.net.now) c.in_ok-moves.moves c.in_ok-moves.ensures

pub returns-then-eq : goal.returns-then-eq
returns-then-eq c = end-member (moves_of c.args.net.now) c.loop-a_move.moves c.next.new.self c.in-Some.a_move c.in-Some.ensures c.loop-a_move.invariant

pub loop-a_move-preserved : goal.loop-a_move-preserved
loop-a_move-preserved c = end-next (moves_of c.args.net.now) c.loop-a_move.moves c.next.new.self c.in-Some.a_move c.in-Some.ensures c.loop-a_move.invariant
