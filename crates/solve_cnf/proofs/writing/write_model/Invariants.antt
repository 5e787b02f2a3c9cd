use Rattle.semantics.specs.Texts.{line_text}
use Rattle.solve_cnf.specs.Writing.{model_line}
use Rattle.solve_cnf.proofs.Appended.{AppendedUpTo}
use Rattle.solve_cnf.proofs.AnswerTexts.{literals_left}
use Rattle.solve_cnf.proofs.writing.write_model.Given as goal

abbrev pub invariant-loop-place : goal.invariant-loop-place
invariant-loop-place g l = AppendedUpTo (g.W.Write.contents l.fn.out) (g.W.Write.contents l.out) (literals_left l.bits l.place) (line_text (model_line l.bits))
