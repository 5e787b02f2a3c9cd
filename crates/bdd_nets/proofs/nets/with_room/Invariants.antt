use Rattle.bdd_nets.proofs.Signals.{IsRoomSoFar}
use Rattle.bdd_nets.proofs.nets.with_room.Given as goal

abbrev pub invariant-loop-i : goal.invariant-loop-i
invariant-loop-i l = IsRoomSoFar l.inputs l.signals.items l.i l.room
