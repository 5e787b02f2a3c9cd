use Rattle.std.proofs.Common.{List, ◌∷◌, Result, map, ap, subst}
use Rattle.std.proofs.lemmas.Result.{err_from_is_err_and}
use Rattle.semantics.specs.Net.{NetValue}
use Rattle.blif_semantics.specs.Lines.{LogicalLine}
use Rattle.blif_semantics.specs.Reading.{Refusal}
use Rattle.blif_text.specs.LogicalLines.{with_words, statement_of}
use Rattle.blif_text.specs.KeptLines.{unless_wrong}
use Rattle.blif_text.specs.Places.{first_wrong_in}
use Rattle.blif_text.specs.Refusals.{Tells}
use Rattle.blif_text.proofs.Numbered.{passed_on}
use Rattle.blif_text.proofs.kept_lines.KeptLines.add.Goals as goal

pub returns-in_err-right-clause-err : goal.returns-in_err-right-clause-err
returns-in_err-right-clause-err c =
    passed_on _ _ _ (err_from_is_err_and c.from_residual.result c.from_residual.ensures.1)
    (subst (λ p. (rest : List LogicalLine) (answer : Result NetValue Refusal)
    → Tells c.in_err-right.field-0.0 (unless_wrong (first_wrong_in p (map statement_of (with_words (c.args.line ∷ rest)))) answer))
    (ap (λ k. k.place) c.self.view_is) c.in_err-right.ensures.err)
