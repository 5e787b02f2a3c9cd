use Rattle.std.proofs.Common.{refl, sym}
use Rattle.blif_writing.proofs.NetTexts.{row_line-parts}
use Rattle.std.proofs.lemmas.Result.{err_from_is_err_and}
use Rattle.file_core.proofs.Outcomes.{Gathers-first, Gathers-in}
use Rattle.blif_writing.proofs.writing.write_row.Goals as goal

pub returns-in_err-write_marks : goal.returns-in_err-write_marks
returns-in_err-write_marks g c =
    let p = err_from_is_err_and c.from_residual.result c.from_residual.ensures.1 in
    rw p.1 (Gathers-first _ _ (row_line-parts c.args.plane c.args.marks.now _ (sym c.if-is_empty.ensures) refl) c.in_err-write_marks.ensures)

pub returns : goal.returns
returns g c = Gathers-in _ (row_line-parts c.args.plane c.args.marks.now _ (sym c.if-is_empty.ensures) c.plane_byte-2.ensures) c.in_ok-write_marks.ensures.ok c.gather-2.ensures.gathers
