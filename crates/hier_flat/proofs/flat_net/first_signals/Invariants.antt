use Rattle.std.proofs.Common.{◌≡◌, ◌++◌, ◌-◌}
use Rattle.std.specs.List.{range_with_len}
use Rattle.hier_flat.proofs.flat_net.first_signals.Given as goal

abbrev pub invariant-loop-signal : goal.invariant-loop-signal
invariant-loop-signal l = l.signals ++ range_with_len l.signal (l.signal-end - l.signal) ≡ range_with_len 0 (l.signal-end - 0)
