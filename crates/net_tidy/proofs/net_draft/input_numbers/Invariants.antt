use Rattle.std.proofs.Common.{◌≡◌, ℕ, ◌<◌, length}
use Rattle.net_tidy.specs.Places.{number_at}
use Rattle.net_tidy.proofs.net_draft.input_numbers.Given as goal

abbrev pub invariant-loop-s : goal.invariant-loop-s
invariant-loop-s l = record {
  count : length l.numbers.items ≡ l.s;
  each : (s : ℕ) → s < l.s → number_at l.numbers.items s ≡ s;
}
