use Rattle.std.proofs.Common.{refl}
use Rattle.std.proofs.lemmas.Result.{err_from_is_err_and}
use Rattle.file_core.proofs.Outcomes.{Gathers-first, Gathers-second, Gathers-third, Gathers-in, Gathers-then}
use Rattle.aiger_text.proofs.CircuitTexts.{body_text-parts}
use Rattle.aiger_text.proofs.writing.write_body.Goals as goal

pub returns-in_err-write_header : goal.returns-in_err-write_header
returns-in_err-write_header g c =
    let p = err_from_is_err_and c.from_residual.result c.from_residual.ensures.1 in
    rw p.1 (Gathers-first _ _ (body_text-parts c.args.circuit.now _ _ _ refl refl refl) c.in_err-write_header.ensures)

pub returns-in_err-write_inputs : goal.returns-in_err-write_inputs
returns-in_err-write_inputs g c =
    let p = err_from_is_err_and c.from_residual-in_err-write_inputs.result c.from_residual-in_err-write_inputs.ensures.1 in
    rw p.1 (Gathers-second _ _ (body_text-parts c.args.circuit.now _ _ _ c.inputs.ensures refl refl) c.in_ok-write_header.ensures.ok c.in_err-write_inputs.ensures)

pub returns-in_err-write_outputs : goal.returns-in_err-write_outputs
returns-in_err-write_outputs g c =
    let p = err_from_is_err_and c.from_residual-in_err-write_outputs.result c.from_residual-in_err-write_outputs.ensures.1 in
    rw p.1 (Gathers-third _ _ (body_text-parts c.args.circuit.now _ _ _ c.inputs.ensures c.outputs.ensures refl) c.in_ok-write_header.ensures.ok c.in_ok-write_inputs.ensures.ok
    c.in_err-write_outputs.ensures)

pub returns : goal.returns
returns g c =
    Gathers-in _ (body_text-parts c.args.circuit.now _ _ _ c.inputs.ensures c.outputs.ensures c.lines.ensures) c.in_ok-write_header.ensures.ok
    (Gathers-then c.in_ok-write_inputs.ensures.ok (Gathers-then c.in_ok-write_outputs.ensures.ok c.write_ands.ensures))
