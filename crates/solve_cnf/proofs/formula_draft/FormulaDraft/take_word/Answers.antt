use Rattle.std.proofs.Common.{sym, ap, ◌∙◌, w32, SFits, arith}
use Rattle.std.proofs.lemmas.Int.{to_z-of_z, ints}
use Rattle.solve_cnf.specs.FormulaDraft.{with_number}
use Rattle.solve_cnf.specs.Reading.{wrong_word}
use Rattle.solve_cnf.proofs.Words.{word_right}
use Rattle.solve_cnf.proofs.formula_draft.FormulaDraft.take_word.Goals as goal

pub returns-clause-ok : goal.returns-clause-ok
returns-clause-ok c =
    let n = c.in_ok-number.number in
    let fits : SFits w32 n = omega (arith, ints, c.in_ok-number.ensures.within, c.self.invariant.few_variables) in
    word_right c.args.self.now c.take_number.new.self c.args.word.now n
    (ap (λ d. wrong_word d.variables c.args.word.now) (sym c.self.view_is) ∙ c.in_ok-number.ensures.right)
    c.in_ok-number.ensures.number (c.in_ok-take_number.ensures.ok ∙ ap (with_number c.args.self.now) (to_z-of_z w32 n fits))
