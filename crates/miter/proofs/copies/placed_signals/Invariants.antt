use Rattle.std.proofs.Common.{◌≡◌, map, take}
use Rattle.miter.specs.Copies.{placed}
use Rattle.miter.proofs.copies.placed_signals.Given as goal

abbrev pub invariant-loop-signal : goal.invariant-loop-signal
invariant-loop-signal l = l.list ≡ map (placed l.inputs l.first) (take l.signal-index l.signals)
