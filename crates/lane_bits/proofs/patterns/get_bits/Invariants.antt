use Rattle.std.proofs.Common.{◌≡◌, take}
use Rattle.lane_bits.specs.Patterns.{vector_at}
use Rattle.lane_bits.proofs.patterns.get_bits.Given as goal

abbrev pub invariant-loop-i : goal.invariant-loop-i
invariant-loop-i l = take l.i l.x ≡ vector_at (take l.i l.rows) l.p
