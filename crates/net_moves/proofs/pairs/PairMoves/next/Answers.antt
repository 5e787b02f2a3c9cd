use Rattle.std.proofs.Common.{sym, ◌∙◌, arith}
use Rattle.net_moves.proofs.PairRows.{pairs-row}
use Rattle.net_moves.proofs.pairs.PairMoves.next.Goals as goal

pub returns-then-self-len-2 : goal.returns-then-self-len-2
returns-then-self-len-2 c =
    sym c.self.view_is
    ∙ pairs-row c.self.inside.t c.self.inside.near c.self.inside.first c.self.inside.second c.self.inside.flips c.get-s.result c.get-u.result
    c.pair_move-a_move.result c.self.invariant.0.order (omega arith) (omega arith) c.get-s.ensures c.get-u.ensures c.pair_move-a_move.ensures
