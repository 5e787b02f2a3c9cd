use Rattle.lrat_check.proofs.LiteralSets.{UnmarkedUpTo}
use Rattle.lrat_check.proofs.literal_set.unmark_all.Given as goal

-- the marks of the literals so far were taken back
abbrev pub invariant-loop-literal : goal.invariant-loop-literal
invariant-loop-literal l = UnmarkedUpTo l.initial.marks.items l.marks.items l.literals l.literal-index
