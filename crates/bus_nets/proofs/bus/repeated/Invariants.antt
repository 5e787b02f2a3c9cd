use Rattle.std.proofs.Common.{◌≡◌, replicate}
use Rattle.bus_nets.proofs.bus.repeated.Given as goal

abbrev pub invariant-loop-at : goal.invariant-loop-at
invariant-loop-at l = l.bus ≡ replicate l._at l.signal
