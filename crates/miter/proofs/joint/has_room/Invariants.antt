use Rattle.std.proofs.Common.{◌≡◌, ◌+◌, ◌^◌, ◌<◌, length, take, sum_by}
use Rattle.semantics.specs.Net.{signal_count}
use Rattle.miter.proofs.joint.has_room.Given as goal

-- the room that is left, beside the signals and the rows so far
abbrev pub invariant-loop-t : goal.invariant-loop-t
invariant-loop-t l = (l.left + signal_count l.net + sum_by (λ t. length t.rows) (take l.t l.net.tables) ≡ 2 ^ 31) × (0 < l.left)
