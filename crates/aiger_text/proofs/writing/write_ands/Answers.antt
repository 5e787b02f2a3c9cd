use Rattle.std.proofs.Common.{refl}
use Rattle.std.proofs.lemmas.Result.{err_from_is_err_and}
use Rattle.file_core.proofs.Gathering.{Gathered-nil}
use Rattle.file_core.proofs.Outcomes.{Gathers-next}
use Rattle.file_core.proofs.Parts.{Gathered-next}
use Rattle.semantics.specs.Texts.{line_text}
use Rattle.aiger_semantics.specs.Text.{and_line}
use Rattle.aiger_text.proofs.writing.write_ands.Goals as goal

pub loop-and-init : goal.loop-and-init
loop-and-init g c = Gathered-nil _ _

pub loop-and-preserved : goal.loop-and-preserved
loop-and-preserved g c = Gathered-next (λ a. line_text (and_line a)) c.args.ands.now c.loop-and.and-index _ c.loop-and-test.true refl c.loop-and.invariant c.in_ok-write_and.ensures.ok

pub returns-in_err-write_and : goal.returns-in_err-write_and
returns-in_err-write_and g c =
    let p = err_from_is_err_and c.from_residual.result c.from_residual.ensures.1 in
    rw p.1 (Gathers-next (λ a. line_text (and_line a)) c.args.ands.now c.loop-and.and-index _ c.loop-and-test.true refl c.loop-and.invariant c.in_err-write_and.ensures)
