use Rattle.std.proofs.Common.{◌≡◌, ◌++◌, ◌-◌}
use Rattle.std.specs.List.{range_with_len}
use Rattle.hier_flat.proofs.frames.with_outputs.Given as goal

abbrev pub invariant-loop-signal : goal.invariant-loop-signal
invariant-loop-signal l =
    l.signals ++ range_with_len l.signal (l.signal-end - l.signal) ≡ l.initial.signals ++ range_with_len l.next (l.signal-end - l.next)
