use Rattle.std.specs.Prelude.{⊤}
use Rattle.std.proofs.Common.{refl}
use Rattle.std.proofs.lemmas.Result.{err_from_is_err_and}
use Rattle.file_core.proofs.Gathering.{Gathered-Gathered}
use Rattle.file_core.proofs.Outcomes.{Gathers-first, Gathers-second, Gathers-last, Gathers-then, Writes-failed, Writes-from_empty, Writes-gathered}
use Rattle.file_core.proofs.Parts.{Gathered-in}
use Rattle.aiger_text.proofs.CircuitTexts.{aiger_text-of}
use Rattle.aiger_text.proofs.writing.write_aiger.Goals as goal

pub returns-in_err-write_body : goal.returns-in_err-write_body
returns-in_err-write_body g c =
    let p = err_from_is_err_and c.from_residual.result c.from_residual.ensures.1 in
    rw p.1 (Writes-failed {S = ⊤} {E = ⊤} {e = tt} c.new-page.ensures (Gathers-first _ _ (aiger_text-of c.args.circuit.now _ _ refl refl) c.in_err-write_body.ensures))

pub returns-in_err-write_symbols : goal.returns-in_err-write_symbols
returns-in_err-write_symbols g c =
    let p = err_from_is_err_and c.from_residual-in_err-write_symbols.result c.from_residual-in_err-write_symbols.ensures.1 in
    rw p.1
    (Writes-failed {S = ⊤} {E = ⊤} {e = tt} c.new-page.ensures
    (Gathers-second _ _ (aiger_text-of c.args.circuit.now _ _ c.input_names.ensures refl) c.in_ok-write_body.ensures.ok c.in_err-write_symbols.ensures))

pub returns-in_err-write_symbols-2 : goal.returns-in_err-write_symbols-2
returns-in_err-write_symbols-2 g c =
    let p = err_from_is_err_and c.from_residual-in_err-write_symbols-2.result c.from_residual-in_err-write_symbols-2.ensures.1 in
    rw p.1
    (Writes-failed {S = ⊤} {E = ⊤} {e = tt} c.new-page.ensures
    (Gathers-last _ (aiger_text-of c.args.circuit.now _ _ c.input_names.ensures c.output_names.ensures) c.in_ok-write_body.ensures.ok
    (Gathers-then c.in_ok-write_symbols.ensures.ok c.in_err-write_symbols-2.ensures)))

pub returns : goal.returns
returns g c =
    Writes-from_empty _ _ c.new-page.ensures
    (Writes-gathered
    (Gathered-in _ (aiger_text-of c.args.circuit.now _ _ c.input_names.ensures c.output_names.ensures) c.in_ok-write_body.ensures.ok
    (Gathered-Gathered c.in_ok-write_symbols.ensures.ok c.in_ok-write_symbols-2.ensures.ok))
    c.send.ensures.writes)
