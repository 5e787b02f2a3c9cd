use Rattle.std.proofs.Common.{◌≡◌, ◌+◌, drop}
use Rattle.file_core.specs.Calls.{is_listed}
use Rattle.file_core.proofs.lists.CallList.lists_next.Given as goal

abbrev pub invariant-loop-number : goal.invariant-loop-number
invariant-loop-number l = is_listed (drop l.number-index l.number-items) (l.calls + 1) ≡ is_listed l.number-items (l.calls + 1)
