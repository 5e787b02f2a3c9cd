use Rattle.std.proofs.lemmas.Result.{err_from_is_err_and}
use Rattle.solve_cnf.proofs.Words.{lines_refused}
use Rattle.solve_cnf.proofs.formula_draft.FormulaDraft.take_lines.Goals as goal

pub returns-in_err-take_line-clause-err : goal.returns-in_err-take_line-clause-err
returns-in_err-take_line-clause-err c =
    let p = err_from_is_err_and c.from_residual.result c.from_residual.ensures.1 in
    rw (p.1, p.2)
    (lines_refused c.loop-line.self c.args.lines.now c.loop-line.line-index c.in_err-take_line.field-0.0 c.loop-line-test.true c.in_err-take_line.ensures.err c.loop-line.invariant.same)
