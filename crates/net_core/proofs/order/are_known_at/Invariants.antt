use Rattle.std.proofs.Common.{take, All}
use Rattle.net_core.specs.Places.{IsKnownAt}
use Rattle.net_core.proofs.order.are_known_at.Given as goal

abbrev pub invariant-loop-signal : goal.invariant-loop-signal
invariant-loop-signal l = All (IsKnownAt l.inputs l.order l.t) (take l.signal-index l.signals)
