use Rattle.std.proofs.Common.{refl, ◌∙◌}
use Rattle.semantics.specs.Net.{signal_names}
use Rattle.blif_writing.proofs.NetTexts.{table_text-parts}
use Rattle.std.proofs.lemmas.Result.{err_from_is_err_and}
use Rattle.file_core.proofs.Outcomes.{Gathers-first, Gathers-in}
use Rattle.blif_writing.proofs.writing.write_table.Goals as goal

pub returns-in_err-write_names_line : goal.returns-in_err-write_names_line
returns-in_err-write_names_line g c =
    let p = err_from_is_err_and c.from_residual.result c.from_residual.ensures.1 in
    rw p.1 (Gathers-first _ _ (table_text-parts (signal_names c.args.net.now) c.args.table.now _ _ refl refl) c.in_err-write_names_line.ensures)

pub returns : goal.returns
returns g c =
    Gathers-in _ (table_text-parts (signal_names c.args.net.now) c.args.table.now _ _ (c.as_slice.ensures ∙ c.rows.ensures.value) c.plane.ensures.value)
    c.in_ok-write_names_line.ensures.ok c.write_rows.ensures
