use Rattle.std.proofs.Common.{◌≡◌, ◌++◌, map, take, drop}
use Rattle.net_tidy.specs.Places.{number_at}
use Rattle.net_tidy.proofs.table_draft.renumber.Given as goal

abbrev pub invariant-loop-signal : goal.invariant-loop-signal
invariant-loop-signal l = l.signals ≡ map (number_at l.numbers) (take l.signal-index l.fn.signals) ++ drop l.signal-index l.fn.signals
