use Rattle.std.proofs.Common.{◌≡◌, map, take}
use Rattle.hier_flat.specs.Flattening.{slot_signal}
use Rattle.hier_flat.proofs.frames.signals_at.Given as goal

abbrev pub invariant-loop-slot : goal.invariant-loop-slot
invariant-loop-slot l = l.found ≡ map (slot_signal l.signals) (take l.slot-index l.slots)
