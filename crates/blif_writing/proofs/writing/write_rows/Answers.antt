use Rattle.std.proofs.Common.{ap, ◌∙◌}
use Rattle.semantics.specs.Texts.{line_text}
use Rattle.semantics.specs.Blif.{row_line}
use Rattle.std.proofs.lemmas.Result.{err_from_is_err_and}
use Rattle.file_core.proofs.Gathering.{Gathered-nil}
use Rattle.file_core.proofs.Outcomes.{Gathers-next}
use Rattle.file_core.proofs.Parts.{Gathered-next}
use Rattle.blif_writing.proofs.writing.write_rows.Goals as goal

pub loop-row-init : goal.loop-row-init
loop-row-init g c = Gathered-nil _ _

pub loop-row-preserved : goal.loop-row-preserved
loop-row-preserved g c =
    Gathered-next (λ marks. line_text (row_line c.args.plane marks)) c.args.rows.now c.loop-row.row-index c.row-item.result c.loop-row-test.true
    (ap (λ marks. line_text (row_line c.args.plane marks)) (c.as_slice.ensures ∙ c.row-item.is)) c.loop-row.invariant c.in_ok-write_row.ensures.ok

pub returns-in_err-write_row : goal.returns-in_err-write_row
returns-in_err-write_row g c =
    let p = err_from_is_err_and c.from_residual.result c.from_residual.ensures.1 in
    rw p.1
    (Gathers-next (λ marks. line_text (row_line c.args.plane marks)) c.args.rows.now c.loop-row.row-index c.row-item.result c.loop-row-test.true
    (ap (λ marks. line_text (row_line c.args.plane marks)) (c.as_slice.ensures ∙ c.row-item.is)) c.loop-row.invariant c.in_err-write_row.ensures)
