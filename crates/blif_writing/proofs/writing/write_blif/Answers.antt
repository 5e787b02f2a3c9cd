use Rattle.std.specs.Prelude.{⊤}
use Rattle.std.proofs.lemmas.Result.{err_from_is_err_and}
use Rattle.file_core.proofs.Gathering.{Gathered-Gathered}
use Rattle.file_core.proofs.Outcomes.{Gathers-first, Gathers-second, Gathers-last, Gathers-then, Writes-failed, Writes-from_empty, Writes-gathered}
use Rattle.file_core.proofs.Parts.{Gathered-in}
use Rattle.blif_writing.proofs.NetTexts.{blif_text-parts}
use Rattle.blif_writing.proofs.writing.write_blif.Goals as goal

pub returns-in_err-write_header : goal.returns-in_err-write_header
returns-in_err-write_header g c =
    let p = err_from_is_err_and c.from_residual.result c.from_residual.ensures.1 in
    rw p.1 (Writes-failed {S = ⊤} {E = ⊤} {e = tt} c.new-page.ensures (Gathers-first _ _ (blif_text-parts c.args.net.now) c.in_err-write_header.ensures))

pub returns-in_err-write_tables : goal.returns-in_err-write_tables
returns-in_err-write_tables g c =
    let p = err_from_is_err_and c.from_residual-in_err-write_tables.result c.from_residual-in_err-write_tables.ensures.1 in
    rw p.1 (Writes-failed {S = ⊤} {E = ⊤} {e = tt} c.new-page.ensures (Gathers-second _ _ (blif_text-parts c.args.net.now) c.in_ok-write_header.ensures.ok c.in_err-write_tables.ensures))

pub returns-in_err-gather : goal.returns-in_err-gather
returns-in_err-gather g c =
    let p = err_from_is_err_and c.from_residual-in_err-gather.result c.from_residual-in_err-gather.ensures.1 in
    rw p.1
    (Writes-failed {S = ⊤} {E = ⊤} {e = tt} c.new-page.ensures
    (Gathers-last _ (blif_text-parts c.args.net.now) c.in_ok-write_header.ensures.ok (Gathers-then c.in_ok-write_tables.ensures.ok c.in_err-gather.ensures.gathers)))

pub returns : goal.returns
returns g c =
    Writes-from_empty _ _ c.new-page.ensures
    (Writes-gathered (Gathered-in _ (blif_text-parts c.args.net.now) c.in_ok-write_header.ensures.ok (Gathered-Gathered c.in_ok-write_tables.ensures.ok c.in_ok-gather.ensures.gathers.ok))
    c.send.ensures.writes)
