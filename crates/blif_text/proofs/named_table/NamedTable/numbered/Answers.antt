use Rattle.std.proofs.Common.{List, Result, ap, subst, ◌∙◌}
use Rattle.std.proofs.lemmas.Result.{err_from_is_err_and}
use Rattle.semantics.specs.Texts.{Bytes}
use Rattle.semantics.specs.Net.{NetValue}
use Rattle.blif_semantics.specs.Reading.{Refusal, undriven, unless_refused}
use Rattle.blif_text.specs.Names.{first_unknown}
use Rattle.blif_text.specs.Refusals.{Tells}
use Rattle.text_words.specs.Slices.{texts}
use Rattle.blif_text.proofs.Numbered.{passed_on}
use Rattle.blif_text.proofs.named_table.NamedTable.numbered.Goals as goal

pub returns-in_err-signals-clause-err : goal.returns-in_err-signals-clause-err
returns-in_err-signals-clause-err c =
    let pins = ap texts c.deref.ensures.value ∙ ap (λ t. t.pins) c.self.view_is in
    passed_on _ _ _ (err_from_is_err_and c.from_residual.result c.from_residual.ensures.1)
    (subst (λ (l : List Bytes). (rest : Result NetValue Refusal) → Tells c.in_err-signals.field-0.0 (unless_refused (first_unknown c.args.names.now l) undriven rest)) pins
    c.in_err-signals.ensures.err)
