use Rattle.std.proofs.Common.{◌≡◌, map, take}
use Rattle.net_tidy.specs.Places.{number_at}
use Rattle.net_tidy.proofs.net_draft.output_list.Given as goal

abbrev pub invariant-loop-signal : goal.invariant-loop-signal
invariant-loop-signal l = l.list ≡ map (number_at l.numbers) (take l.signal-index l.signals)
