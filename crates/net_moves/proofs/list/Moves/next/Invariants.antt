use Rattle.std.proofs.Common.{◌≡◌, ◌++◌, ◌-◌, drop, length}
use Rattle.semantics.specs.Net.{IsSmall, signal_count}
use Rattle.chain_semantics.specs.Moves.{moves_from}
use Rattle.net_moves.specs.Left.{offered}
use Rattle.net_moves.proofs.list.Moves.next.Given as goal

abbrev pub invariant-loop-self : goal.invariant-loop-self
invariant-loop-self l =
    IsSmall l.self-inside.net.now
    × (l.self-inside.moves.room ≡ signal_count l.self-inside.net.now)
    × (l.self-inside.moves.left ++ moves_from (offered l.self-inside.pairs l.self-inside.net.now) l.self-inside.table (drop l.self-inside.table l.self-inside.net.now.tables) ≡ l.fn.self)

abbrev pub decreases-loop-self : goal.decreases-loop-self
decreases-loop-self l = length l.self-inside.net.now.tables - l.self-inside.table
