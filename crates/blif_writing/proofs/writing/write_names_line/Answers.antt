use Rattle.std.proofs.Common.{refl, ◌∙◌}
use Rattle.semantics.specs.Net.{signal_names}
use Rattle.blif_writing.proofs.NetTexts.{names_line-parts}
use Rattle.std.proofs.lemmas.Result.{err_from_is_err_and}
use Rattle.file_core.proofs.Outcomes.{Gathers-first, Gathers-second, Gathers-in, Gathers-then}
use Rattle.blif_writing.proofs.writing.write_names_line.Goals as goal

pub returns-in_err-gather : goal.returns-in_err-gather
returns-in_err-gather g c =
    let p = err_from_is_err_and c.from_residual.result c.from_residual.ensures.1 in
    rw p.1 (Gathers-first _ _ (names_line-parts (signal_names c.args.net.now) c.args.table.now _ _ refl refl) c.in_err-gather.ensures.gathers)

pub returns-in_err-write_signals : goal.returns-in_err-write_signals
returns-in_err-write_signals g c =
    let p = err_from_is_err_and c.from_residual-in_err-write_signals.result c.from_residual-in_err-write_signals.ensures.1 in
    rw p.1 (Gathers-second _ _ (names_line-parts (signal_names c.args.net.now) c.args.table.now _ _ (c.as_slice.ensures ∙ c.pins.ensures.value) refl) c.in_ok-gather.ensures.gathers.ok
    c.in_err-write_signals.ensures)

pub returns : goal.returns
returns g c =
    Gathers-in _ (names_line-parts (signal_names c.args.net.now) c.args.table.now _ _ (c.as_slice.ensures ∙ c.pins.ensures.value) (c.bytes.ensures.value ∙ c.name.ensures.value))
    c.in_ok-gather.ensures.gathers.ok (Gathers-then c.in_ok-write_signals.ensures.ok c.gather_pieces.ensures)
