use Rattle.std.proofs.Common.{◌≡◌, ◌+◌, ℕ, ◌<◌, ◌≤◌, length}
use Rattle.net_tidy.specs.Places.{rank, signals_gone, number_at}
use Rattle.net_tidy.proofs.net_draft.numbers_of.Given as goal

abbrev pub invariant-loop-i : goal.invariant-loop-i
invariant-loop-i l = record {
  count : length l.numbers.items ≡ l.inputs + l.i;
  next : l.next ≡ rank (signals_gone l.inputs l.gone) (l.inputs + l.i);
  small : l.next ≤ l.inputs + l.i;
  each : (s : ℕ) → s < l.inputs + l.i → number_at l.numbers.items s ≡ rank (signals_gone l.inputs l.gone) s;
}
