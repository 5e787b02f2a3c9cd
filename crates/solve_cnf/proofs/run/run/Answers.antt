use Rattle.std.proofs.Common.{subst}
use Rattle.std.proofs.KnownBytes.{Appends-kept}
use Rattle.cdcl_core.specs.Answers.{IsAnswer}
use Rattle.solve_cnf.specs.Writing.{answer_text}
use Rattle.solve_cnf.proofs.run.run.Goals as goal

pub returns-clause-ok : goal.returns-clause-ok
returns-clause-ok g c = record {
  formula = c.in_ok-cnf.cnf;
  means = c.in_ok-cnf.ensures.ok;
  answer = c.in_ok-answer.answer;
  right = subst (λ merged. IsAnswer c.in_ok-cnf.cnf merged c.args.limit c.in_ok-answer.answer) c.new.ensures c.in_ok-answer.ensures;
  written =
      Appends-kept (g.W.Write.contents c.args.out.now) (g.W.Write.contents c.write_answer.new.out) (g.W.Write.contents c.flush.new.self) (answer_text c.in_ok-answer.answer)
      c.in_ok-write_answer.ensures c.in_ok-flush.ensures.bytes;
}
