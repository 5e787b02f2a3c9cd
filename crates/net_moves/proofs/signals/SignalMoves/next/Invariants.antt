use Rattle.std.proofs.Common.{◌≡◌, ◌-◌, ◌≤◌, ◌<◌, ◌^◌, false, drop, length}
use Rattle.net_moves.specs.Left.{signals_from}
use Rattle.net_moves.proofs.signals.SignalMoves.next.Given as goal

abbrev pub invariant-loop-self : goal.invariant-loop-self
invariant-loop-self l =
    (length l.self-inside.marks.items < 2 ^ 31)
    × (l.self-inside.signal ≤ length l.self-inside.marks.items)
    × (l.self-inside.flip ≡ false)
    × (length l.self-inside.marks.items ≡ l.fn.self.room)
    × (signals_from l.self-inside.t l.self-inside.signal (drop l.self-inside.signal l.self-inside.marks.items) ≡ l.fn.self.left)

abbrev pub decreases-loop-self : goal.decreases-loop-self
decreases-loop-self l = length l.self-inside.marks.items - l.self-inside.signal
