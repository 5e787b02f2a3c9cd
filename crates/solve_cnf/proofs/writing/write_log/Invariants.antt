use Rattle.std.proofs.Common.{length}
use Rattle.proof_semantics.specs.Lrat.{lrat_text}
use Rattle.solve_cnf.proofs.Appended.{AppendedUpTo}
use Rattle.solve_cnf.proofs.writing.write_log.Given as goal

abbrev pub invariant-loop-text : goal.invariant-loop-text
invariant-loop-text g l = AppendedUpTo (g.W.Write.contents l.fn.out) (g.W.Write.contents l.out) l.text (lrat_text l.items)

abbrev pub decreases-loop-text : goal.decreases-loop-text
decreases-loop-text g l = length l.text
