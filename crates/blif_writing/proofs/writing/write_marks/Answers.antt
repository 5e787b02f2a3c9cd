use Rattle.std.proofs.Common.{[], ◌∷◌, ap}
use Rattle.semantics.specs.Blif.{mark_byte}
use Rattle.std.proofs.lemmas.Result.{err_from_is_err_and}
use Rattle.file_core.proofs.Gathering.{Gathered-nil}
use Rattle.file_core.proofs.Outcomes.{Gathers-next}
use Rattle.file_core.proofs.Parts.{Gathered-next}
use Rattle.blif_writing.proofs.writing.write_marks.Goals as goal

pub loop-mark-init : goal.loop-mark-init
loop-mark-init g c = Gathered-nil _ _

pub loop-mark-preserved : goal.loop-mark-preserved
loop-mark-preserved g c =
    Gathered-next (λ mark. mark_byte mark ∷ []) c.args.marks.now c.loop-mark.mark-index _ c.loop-mark-test.true (ap (λ b. b ∷ []) c.mark_byte.ensures) c.loop-mark.invariant
    c.in_ok-gather.ensures.gathers.ok

pub returns-in_err-gather : goal.returns-in_err-gather
returns-in_err-gather g c =
    let p = err_from_is_err_and c.from_residual.result c.from_residual.ensures.1 in
    rw p.1
    (Gathers-next (λ mark. mark_byte mark ∷ []) c.args.marks.now c.loop-mark.mark-index _ c.loop-mark-test.true (ap (λ b. b ∷ []) c.mark_byte.ensures) c.loop-mark.invariant
    c.in_err-gather.ensures.gathers)
