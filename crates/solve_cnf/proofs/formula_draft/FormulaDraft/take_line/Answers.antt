use Rattle.std.proofs.lemmas.Result.{err_from_is_err_and}
use Rattle.blif_semantics.specs.Lines.{words_of}
use Rattle.solve_cnf.proofs.Words.{words_refused}
use Rattle.solve_cnf.proofs.formula_draft.FormulaDraft.take_line.Goals as goal

pub returns-in_err-take_word-clause-err : goal.returns-in_err-take_word-clause-err
returns-in_err-take_word-clause-err c =
    let p = err_from_is_err_and c.from_residual-in_err-take_word.result c.from_residual-in_err-take_word.ensures.1 in
    rw (p.1, p.2)
    (words_refused c.args.self.now c.loop-word.self c.as_slice-word-items.result.now c.loop-word.word-index (words_of c.args.line.now.1.now) c.in_err-take_word.field-0.0
    c.loop-word-test.true c.in_err-take_word.ensures.err c.loop-word.invariant.same)
