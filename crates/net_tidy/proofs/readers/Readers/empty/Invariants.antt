use Rattle.std.proofs.Common.{◌≡◌, length}
use Rattle.net_tidy.proofs.readers.Readers.empty.Given as goal

abbrev pub invariant-loop : goal.invariant-loop
invariant-loop l = length l.lists.items ≡ l.counter
