use Rattle.std.proofs.Common.{◌∙◌}
use Rattle.blif_writing.proofs.NetTexts.{header_text-parts}
use Rattle.std.proofs.lemmas.Result.{err_from_is_err_and}
use Rattle.file_core.proofs.Outcomes.{Gathers-first, Gathers-second, Gathers-third, Gathers-fourth, Gathers-in, Gathers-then}
use Rattle.blif_writing.proofs.writing.write_header.Goals as goal

pub returns-in_err-gather_pieces : goal.returns-in_err-gather_pieces
returns-in_err-gather_pieces g c =
    let p = err_from_is_err_and c.from_residual.result c.from_residual.ensures.1 in
    rw p.1 (Gathers-first _ _ (header_text-parts c.args.net.now c.bytes.result.now (c.bytes.ensures.value ∙ c.model.ensures.value)) c.in_err-gather_pieces.ensures)

pub returns-in_err-write_inputs : goal.returns-in_err-write_inputs
returns-in_err-write_inputs g c =
    let p = err_from_is_err_and c.from_residual-in_err-write_inputs.result c.from_residual-in_err-write_inputs.ensures.1 in
    rw p.1 (Gathers-second _ _ (header_text-parts c.args.net.now c.bytes.result.now (c.bytes.ensures.value ∙ c.model.ensures.value)) c.in_ok-gather_pieces.ensures.ok c.in_err-write_inputs.ensures)

pub returns-in_err-gather : goal.returns-in_err-gather
returns-in_err-gather g c =
    let p = err_from_is_err_and c.from_residual-in_err-gather.result c.from_residual-in_err-gather.ensures.1 in
    rw p.1 (Gathers-third _ _ (header_text-parts c.args.net.now c.bytes.result.now (c.bytes.ensures.value ∙ c.model.ensures.value)) c.in_ok-gather_pieces.ensures.ok c.in_ok-write_inputs.ensures.ok
    c.in_err-gather.ensures.gathers)

pub returns-in_err-write_outputs : goal.returns-in_err-write_outputs
returns-in_err-write_outputs g c =
    let p = err_from_is_err_and c.from_residual-in_err-write_outputs.result c.from_residual-in_err-write_outputs.ensures.1 in
    rw p.1
    (Gathers-fourth _ _ (header_text-parts c.args.net.now c.bytes.result.now (c.bytes.ensures.value ∙ c.model.ensures.value)) c.in_ok-gather_pieces.ensures.ok c.in_ok-write_inputs.ensures.ok
    c.in_ok-gather.ensures.gathers.ok
    c.in_err-write_outputs.ensures)

pub returns : goal.returns
returns g c =
    Gathers-in _ (header_text-parts c.args.net.now c.bytes.result.now (c.bytes.ensures.value ∙ c.model.ensures.value)) c.in_ok-gather_pieces.ensures.ok
    (Gathers-then c.in_ok-write_inputs.ensures.ok (Gathers-then c.in_ok-gather.ensures.gathers.ok (Gathers-then c.in_ok-write_outputs.ensures.ok c.gather-2.ensures.gathers)))
