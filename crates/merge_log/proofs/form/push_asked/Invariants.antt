use Rattle.std.proofs.Common.{◌≡◌, ◌++◌, drop, map}
use Rattle.merge_log.specs.Chains.{asked}
use Rattle.merge_log.proofs.form.push_asked.Given as goal

abbrev pub invariant-loop-mark : goal.invariant-loop-mark
invariant-loop-mark l = l.marks.items ++ map asked (drop l.mark-index l.row) ≡ l.initial.marks.items ++ map asked l.row
