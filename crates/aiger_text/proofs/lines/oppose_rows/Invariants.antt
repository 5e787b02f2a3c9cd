use Rattle.std.proofs.Common.{get_or}
use Rattle.aiger_text.proofs.TableLines.{AreRowsOpposed}
use Rattle.aiger_text.proofs.lines.oppose_rows.Given as goal

abbrev pub invariant-loop-row : goal.invariant-loop-row
invariant-loop-row l = AreRowsOpposed (λ s. get_or l.literals s 0) l.pins l.first l.rows l.row-index l.next l.opposites.items
