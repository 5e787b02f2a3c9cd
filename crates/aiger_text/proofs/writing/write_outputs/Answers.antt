use Rattle.std.proofs.Common.{ap}
use Rattle.std.proofs.lemmas.Result.{err_from_is_err_and}
use Rattle.file_core.proofs.Gathering.{Gathered-nil}
use Rattle.file_core.proofs.Outcomes.{Gathers-next}
use Rattle.file_core.proofs.Parts.{Gathered-next}
use Rattle.semantics.specs.Texts.{line_text}
use Rattle.aiger_semantics.specs.Text.{number_line}
use Rattle.aiger_text.proofs.writing.write_outputs.Goals as goal

pub loop-literal-init : goal.loop-literal-init
loop-literal-init g c = Gathered-nil _ _

pub loop-literal-preserved : goal.loop-literal-preserved
loop-literal-preserved g c = Gathered-next (λ literal. line_text (number_line literal)) c.args.literals.now c.loop-literal.literal-index _ c.loop-literal-test.true
    (ap (λ n. line_text (number_line n)) c.from.ensures) c.loop-literal.invariant c.in_ok-write_number.ensures.ok

pub returns-in_err-write_number : goal.returns-in_err-write_number
returns-in_err-write_number g c =
    let p = err_from_is_err_and c.from_residual.result c.from_residual.ensures.1 in
    rw p.1 (Gathers-next (λ literal. line_text (number_line literal)) c.args.literals.now c.loop-literal.literal-index _ c.loop-literal-test.true (ap (λ n. line_text (number_line n)) c.from.ensures)
    c.loop-literal.invariant c.in_err-write_number.ensures)
