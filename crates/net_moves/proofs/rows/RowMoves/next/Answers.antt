use Rattle.std.proofs.Common.{sym, ◌∙◌}
use Rattle.net_moves.proofs.Lists.{rows-more}
use Rattle.net_moves.proofs.rows.RowMoves.next.Goals as goal

pub returns : goal.returns
returns c = sym c.self.view_is ∙ rows-more c.self.inside.t c.self.inside.row c.self.inside.end c.if-self.false
