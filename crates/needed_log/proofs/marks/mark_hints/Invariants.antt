use Rattle.std.proofs.Common.{take}
use Rattle.needed_log.specs.Marks.{AreMarkedToo}
use Rattle.needed_log.proofs.marks.mark_hints.Given as goal

abbrev pub invariant-loop-hint : goal.invariant-loop-hint
invariant-loop-hint l = AreMarkedToo l.clauses (take l.hint-index l.hints) l.initial.marks l.marks
