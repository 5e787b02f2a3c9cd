use Rattle.std.proofs.Common.{◌≡◌, ◌+◌, ◌*◌, [], drop, Ok, ap, sym, refl, ◌∙◌, arith}
use Rattle.std.proofs.lemmas.Result.{err_from_is_err_and}
use Rattle.aiger_semantics.specs.CircuitLines.{before_comment, names_at}
use Rattle.text_words.specs.Slices.{texts}
use Rattle.aiger_text.specs.SymbolTexts.{SymbolTexts}
use Rattle.aiger_text.proofs.SectionSteps.{texts-count}
use Rattle.aiger_text.proofs.NetSteps.{passed_on}
use Rattle.aiger_text.proofs.BodySteps.{inputs_told, outputs_told, ands_told, symbols_told, body-read, body-few, names-from}
use Rattle.aiger_text.proofs.circuit_reading.body_reading.Goals as goal

pub returns-in_err-inputs-clause-err : goal.returns-in_err-inputs-clause-err
returns-in_err-inputs-clause-err c =
    passed_on _ _ _ (err_from_is_err_and c.from_residual.result c.from_residual.ensures.1)
    (inputs_told c.args.header.now (texts c.args.lines.now) (2 * c.args.header.now.greatest + 1) refl [] _ c.in_err-inputs.ensures.err)

pub returns-in_err-outputs-clause-err : goal.returns-in_err-outputs-clause-err
returns-in_err-outputs-clause-err c =
    passed_on _ _ _ (err_from_is_err_and c.from_residual-in_err-outputs.result c.from_residual-in_err-outputs.ensures.1)
    (outputs_told c.args.header.now (texts c.args.lines.now) (2 * c.args.header.now.greatest + 1) refl c.in_ok-inputs.inputs c.in_ok-inputs.ensures.ok (2 + c.from-outputs_at.result)
    (ap (λ n. 2 + n) c.from-outputs_at.ensures) (texts c.behind-output_lines.result.now) (c.behind-output_lines.ensures ∙ ap (λ n. drop n (texts c.args.lines.now)) c.from-outputs_at.ensures) [] _
    c.in_err-outputs.ensures.err)

pub returns-in_err-ands-clause-err : goal.returns-in_err-ands-clause-err
returns-in_err-ands-clause-err c =
    passed_on _ _ _ (err_from_is_err_and c.from_residual-in_err-ands.result c.from_residual-in_err-ands.ensures.1)
    (ands_told c.args.header.now (texts c.args.lines.now) (2 * c.args.header.now.greatest + 1) refl c.in_ok-inputs.inputs c.in_ok-inputs.ensures.ok (2 + c.from-outputs_at.result)
    (ap (λ n. 2 + n) c.from-outputs_at.ensures) (texts c.behind-output_lines.result.now) (c.behind-output_lines.ensures ∙ ap (λ n. drop n (texts c.args.lines.now)) c.from-outputs_at.ensures)
    c.in_ok-outputs.outputs c.in_ok-outputs.ensures.ok (2 + (c.from-outputs_at.result + c.from.result)) (omega (arith, c.from-outputs_at.ensures, c.from.ensures))
    (texts c.behind-and_lines.result.now)
    (c.behind-and_lines.ensures ∙ ap (λ n. drop n (texts c.args.lines.now)) (omega (arith, c.from-outputs_at.ensures, c.from.ensures))) [] _ c.in_err-ands.ensures.err)

pub returns-in_err-given-clause-err : goal.returns-in_err-given-clause-err
returns-in_err-given-clause-err c =
    passed_on _ _ _ (err_from_is_err_and c.from_residual-in_err-given.result c.from_residual-in_err-given.ensures.1)
    (symbols_told c.args.header.now (texts c.args.lines.now) (2 * c.args.header.now.greatest + 1) refl c.in_ok-inputs.inputs c.in_ok-inputs.ensures.ok (2 + c.from-outputs_at.result)
    (ap (λ n. 2 + n) c.from-outputs_at.ensures) (texts c.behind-output_lines.result.now) (c.behind-output_lines.ensures ∙ ap (λ n. drop n (texts c.args.lines.now)) c.from-outputs_at.ensures)
    c.in_ok-outputs.outputs c.in_ok-outputs.ensures.ok (2 + (c.from-outputs_at.result + c.from.result)) (omega (arith, c.from-outputs_at.ensures, c.from.ensures))
    (texts c.behind-and_lines.result.now)
    (c.behind-and_lines.ensures ∙ ap (λ n. drop n (texts c.args.lines.now)) (omega (arith, c.from-outputs_at.ensures, c.from.ensures))) c.in_ok-ands.ands c.in_ok-ands.ensures.ok
    (2 + (c.from-outputs_at.result + c.from.result + c.from-2.result)) (omega (arith, c.from-outputs_at.ensures, c.from.ensures, c.from-2.ensures)) (texts c.before_comment-symbol_lines.result.now)
    (c.before_comment-symbol_lines.ensures ∙ ap before_comment
    (c.behind-further.ensures ∙ ap (λ n. drop n (texts c.args.lines.now)) (omega (arith, c.from-outputs_at.ensures, c.from.ensures, c.from-2.ensures)))) _ c.in_err-given.ensures.err)

pub of_parts-requires : goal.of_parts-requires
of_parts-requires c =
    let symbols = c.in_ok-given.ensures.ok.0 in
    let inputs : c.in_ok-input_names.input_names ≡ names_at symbols 105 c.args.header.now.inputs =
    names-from symbols 105 c.args.header.now.inputs c.deref.result.now c.in_ok-given.given.inputs c.in_ok-input_names.input_names
    (ap texts c.deref.ensures.value ∙ ap (λ (t : SymbolTexts). t.inputs) c.given.view_is)
    c.in_ok-given.ensures.ok.2.inputs (c.in_ok-input_names.ensures symbols) in
    let outputs : c.in_ok-output_names.output_names ≡ names_at symbols 111 c.args.header.now.outputs =
    names-from symbols 111 c.args.header.now.outputs c.deref-2.result.now c.in_ok-given.given.outputs c.in_ok-output_names.output_names
    (ap texts c.deref-2.ensures.value ∙ ap (λ (t : SymbolTexts). t.outputs) c.given.view_is)
    c.in_ok-given.ensures.ok.2.outputs (c.in_ok-output_names.ensures symbols) in
    let read =
    body-read c.args.header.now (texts c.args.lines.now) (2 * c.args.header.now.greatest + 1) refl c.in_ok-inputs.inputs
    c.in_ok-inputs.ensures.ok (2 + c.from-outputs_at.result) (ap (λ n. 2 + n) c.from-outputs_at.ensures) (texts c.behind-output_lines.result.now)
    (c.behind-output_lines.ensures ∙ ap (λ n. drop n (texts c.args.lines.now)) c.from-outputs_at.ensures) c.in_ok-outputs.outputs
    c.in_ok-outputs.ensures.ok (2 + (c.from-outputs_at.result + c.from.result)) (omega (arith, c.from-outputs_at.ensures, c.from.ensures)) (texts c.behind-and_lines.result.now)
    (c.behind-and_lines.ensures ∙ ap (λ n. drop n (texts c.args.lines.now)) (omega (arith, c.from-outputs_at.ensures, c.from.ensures))) c.in_ok-ands.ands
    c.in_ok-ands.ensures.ok (2 + (c.from-outputs_at.result + c.from.result + c.from-2.result)) (omega (arith, c.from-outputs_at.ensures, c.from.ensures, c.from-2.ensures))
    (texts c.before_comment-symbol_lines.result.now)
    (c.before_comment-symbol_lines.ensures ∙ ap before_comment
    (c.behind-further.ensures ∙ ap (λ n. drop n (texts c.args.lines.now)) (omega (arith, c.from-outputs_at.ensures, c.from.ensures, c.from-2.ensures))))
    symbols c.in_ok-input_names.input_names c.in_ok-output_names.output_names c.in_ok-given.ensures.ok.1 inputs outputs in
    omega (arith, body-few c.args.header.now (texts c.args.lines.now) _ read, texts-count c.args.lines.now, c.requires.few)

pub returns-clause-ok : goal.returns-clause-ok
returns-clause-ok c =
    let symbols = c.in_ok-given.ensures.ok.0 in
    let inputs : c.in_ok-input_names.input_names ≡ names_at symbols 105 c.args.header.now.inputs =
    names-from symbols 105 c.args.header.now.inputs c.deref.result.now c.in_ok-given.given.inputs c.in_ok-input_names.input_names
    (ap texts c.deref.ensures.value ∙ ap (λ (t : SymbolTexts). t.inputs) c.given.view_is)
    c.in_ok-given.ensures.ok.2.inputs (c.in_ok-input_names.ensures symbols) in
    let outputs : c.in_ok-output_names.output_names ≡ names_at symbols 111 c.args.header.now.outputs =
    names-from symbols 111 c.args.header.now.outputs c.deref-2.result.now c.in_ok-given.given.outputs c.in_ok-output_names.output_names
    (ap texts c.deref-2.ensures.value ∙ ap (λ (t : SymbolTexts). t.outputs) c.given.view_is)
    c.in_ok-given.ensures.ok.2.outputs (c.in_ok-output_names.ensures symbols) in
    let read =
    body-read c.args.header.now (texts c.args.lines.now) (2 * c.args.header.now.greatest + 1) refl c.in_ok-inputs.inputs
    c.in_ok-inputs.ensures.ok (2 + c.from-outputs_at.result) (ap (λ n. 2 + n) c.from-outputs_at.ensures) (texts c.behind-output_lines.result.now)
    (c.behind-output_lines.ensures ∙ ap (λ n. drop n (texts c.args.lines.now)) c.from-outputs_at.ensures) c.in_ok-outputs.outputs
    c.in_ok-outputs.ensures.ok (2 + (c.from-outputs_at.result + c.from.result)) (omega (arith, c.from-outputs_at.ensures, c.from.ensures)) (texts c.behind-and_lines.result.now)
    (c.behind-and_lines.ensures ∙ ap (λ n. drop n (texts c.args.lines.now)) (omega (arith, c.from-outputs_at.ensures, c.from.ensures))) c.in_ok-ands.ands
    c.in_ok-ands.ensures.ok (2 + (c.from-outputs_at.result + c.from.result + c.from-2.result)) (omega (arith, c.from-outputs_at.ensures, c.from.ensures, c.from-2.ensures))
    (texts c.before_comment-symbol_lines.result.now)
    (c.before_comment-symbol_lines.ensures ∙ ap before_comment
    (c.behind-further.ensures ∙ ap (λ n. drop n (texts c.args.lines.now)) (omega (arith, c.from-outputs_at.ensures, c.from.ensures, c.from-2.ensures))))
    symbols c.in_ok-input_names.input_names c.in_ok-output_names.output_names c.in_ok-given.ensures.ok.1 inputs outputs in
    read ∙ ap Ok (sym c.of_parts.ensures)
