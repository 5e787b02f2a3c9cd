use Rattle.std.proofs.Common.{◌++◌, codes, sym, ap, ◌∙◌}
use Rattle.std.proofs.lemmas.Result.{on_ok_weaker}
use Rattle.semantics.specs.Texts.{line_text}
use Rattle.proof_semantics.specs.Lrat.{lrat_text}
use Rattle.solve_cnf.specs.Writing.{model_line, answer_text}
use Rattle.solve_cnf.proofs.Appended.{two_appended}
use Rattle.solve_cnf.proofs.writing.write_answer.Goals as goal

pub returns-in_ok-write_all-in-Model : goal.returns-in_ok-write_all-in-Model
returns-in_ok-write_all-in-Model g c =
    on_ok_weaker c.write_model.result
    (λ last. two_appended (g.W.Write.contents c.args.out.now) (g.W.Write.contents c.write_all.new.self) (g.W.Write.contents c.write_model.new.out)
    (codes "s SATISFIABLE\n") (line_text (model_line c.as_slice.result.now))
    (ap (λ bits. codes "s SATISFIABLE\n" ++ line_text (model_line bits)) c.as_slice.ensures ∙ sym (ap answer_text c.in-Model.is))
    c.in_ok-write_all-in-Model.ensures.bytes last)
    c.write_model.ensures

pub returns-in_ok-write_all-in-Refuted : goal.returns-in_ok-write_all-in-Refuted
returns-in_ok-write_all-in-Refuted g c =
    on_ok_weaker c.write_log.result
    (λ last. two_appended (g.W.Write.contents c.args.out.now) (g.W.Write.contents c.write_all-in-Refuted.new.self) (g.W.Write.contents c.write_log.new.out)
    (codes "s UNSATISFIABLE\n") (lrat_text c.as_slice-in-Refuted.result.now)
    (ap (λ log. codes "s UNSATISFIABLE\n" ++ lrat_text log) c.as_slice-in-Refuted.ensures ∙ sym (ap answer_text c.in-Refuted.is))
    c.in_ok-write_all-in-Refuted.ensures.bytes last)
    c.write_log.ensures
