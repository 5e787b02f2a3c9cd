use Rattle.aig_core.proofs.Signals.{IsRoomSoFar}
use Rattle.aig_core.proofs.nets.with_room.Given as goal

abbrev pub invariant-loop-i : goal.invariant-loop-i
invariant-loop-i l = IsRoomSoFar l.inputs l.signals.items l.i l.room
