use Rattle.std.proofs.Common.{ap, ◌*◌}
use Rattle.std.proofs.lemmas.Result.{err_from_is_err_and}
use Rattle.file_core.proofs.Gathering.{Gathered-nil}
use Rattle.file_core.proofs.Outcomes.{Gathers-next}
use Rattle.file_core.proofs.Parts.{Gathered-next}
use Rattle.semantics.specs.Texts.{line_text}
use Rattle.aiger_semantics.specs.Text.{input_line, number_line}
use Rattle.aiger_text.proofs.writing.write_inputs.Goals as goal

pub loop-variable-init : goal.loop-variable-init
loop-variable-init g c = Gathered-nil _ _

pub loop-variable-preserved : goal.loop-variable-preserved
loop-variable-preserved g c = Gathered-next (λ variable. line_text (input_line variable)) c.args.variables.now c.loop-variable.variable-index _ c.loop-variable-test.true
    (ap (λ n. line_text (number_line (2 * n))) c.from.ensures) c.loop-variable.invariant c.in_ok-write_number.ensures.ok

pub returns-in_err-write_number : goal.returns-in_err-write_number
returns-in_err-write_number g c =
    let p = err_from_is_err_and c.from_residual.result c.from_residual.ensures.1 in
    rw p.1 (Gathers-next (λ variable. line_text (input_line variable)) c.args.variables.now c.loop-variable.variable-index _ c.loop-variable-test.true
    (ap (λ n. line_text (number_line (2 * n))) c.from.ensures) c.loop-variable.invariant c.in_err-write_number.ensures)
