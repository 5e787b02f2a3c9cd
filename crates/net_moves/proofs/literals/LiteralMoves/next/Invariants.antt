use Rattle.std.proofs.Common.{◌≡◌, ◌-◌, drop, length}
use Rattle.net_moves.specs.Left.{literals_left, AreCountable}
use Rattle.net_moves.proofs.literals.LiteralMoves.next.Given as goal

abbrev pub invariant-loop-self : goal.invariant-loop-self
invariant-loop-self l =
    AreCountable l.self-inside.rows.now
    × (literals_left l.self-inside.t l.self-inside.row l.self-inside.pin (drop l.self-inside.row l.self-inside.rows.now) ≡ l.fn.self)

abbrev pub decreases-loop-self : goal.decreases-loop-self
decreases-loop-self l = length l.self-inside.rows.now - l.self-inside.row
