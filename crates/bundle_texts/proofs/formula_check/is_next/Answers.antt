use Rattle.std.proofs.Common.{ℕ, take, arith}
use Rattle.std.proofs.lemmas.List.{length-take, length-replicate}
use Rattle.std.proofs.lemmas.Slice.Eq.{slice_eq-Decides}
use Rattle.std.proofs.lemmas.Bool.Decides.{Decides-eqb}
use Rattle.bundle_texts.proofs.FormulaChecks.{next_decides}
use Rattle.bundle_texts.proofs.formula_check.is_next.Goals as goal

pub returns-clause-answer : goal.returns-clause-answer
returns-clause-answer c =
    let next = c.fill-count.new.buf in
    let count = c.fill-count.result in
    let decides = slice_eq-Decides Decides-eqb c.args.piece.now (take count next) c.eq.result c.eq.ensures in
    next_decides c.eq.result c.args.piece.now c.args.rest.now next count decides (omega (arith, length-take {A = ℕ}, length-replicate {A = ℕ})) c.fill-count.ensures.given
