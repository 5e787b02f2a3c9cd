use Rattle.std.proofs.Common.{◌≡◌, ◌++◌, length, drop}
use Rattle.worst_case.proofs.repeated_query.take_first.Given as goal

abbrev pub invariant-loop-i : goal.invariant-loop-i
invariant-loop-i l = record {
  whole : l.first ++ drop l.i l.log ≡ l.initial.log;
  count : length l.first ≡ l.i;
}
