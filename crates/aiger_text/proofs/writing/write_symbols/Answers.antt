use Rattle.std.proofs.Common.{subst, ◌∙◌, length, [], arith}
use Rattle.std.specs.List.{range_with_len}
use Rattle.std.proofs.lemmas.Result.{err_from_is_err_and}
use Rattle.std.proofs.lemmas.List.{get_or_read}
use Rattle.std.proofs.lemmas.List.FromFn.{length-range_with_len}
use Rattle.file_core.proofs.Gathering.{Gathered-nil}
use Rattle.file_core.proofs.Outcomes.{Gathers-next, Gathers-ok}
use Rattle.file_core.specs.Page.{Gathered}
use Rattle.file_core.proofs.Parts.{Gathered-next}
use Rattle.semantics.specs.Texts.{line_text}
use Rattle.aiger_semantics.specs.Text.{symbol_line}
use Rattle.aiger_text.proofs.CircuitTexts.{symbol_text_at, all_of_range}
use Rattle.aiger_text.proofs.writing.write_symbols.Goals as goal

pub loop-i-init : goal.loop-i-init
loop-i-init g c = Gathered-nil _ _

pub loop-i-preserved : goal.loop-i-preserved
loop-i-preserved g c =
    let n = length c.args.names.now in
    let size = length-range_with_len 0 n in
    Gathered-next (λ i. line_text (symbol_line c.args.letter c.args.names.now i)) (range_with_len 0 n) c.loop-i.i 0 (omega (arith, size))
    (symbol_text_at c.args.letter c.args.names.now c.loop-i.i (omega arith) _ _ (c.as_bytes.ensures.value ∙ c.format.ensures.text)
    (c.bytes.ensures.value ∙ get_or_read c.args.names.now c.loop-i.i c.index-names-i.result (omega arith) c.index-names-i.is [])) c.loop-i.invariant
    c.in_ok-gather_pieces.ensures.ok

pub returns-in_err-gather_pieces : goal.returns-in_err-gather_pieces
returns-in_err-gather_pieces g c =
    let p = err_from_is_err_and c.from_residual.result c.from_residual.ensures.1 in
    let n = length c.args.names.now in
    let size = length-range_with_len 0 n in
    rw p.1
    (Gathers-next (λ i. line_text (symbol_line c.args.letter c.args.names.now i)) (range_with_len 0 n) c.loop-i.i 0 (omega (arith, size))
    (symbol_text_at c.args.letter c.args.names.now c.loop-i.i (omega arith) _ _ (c.as_bytes.ensures.value ∙ c.format.ensures.text)
    (c.bytes.ensures.value ∙ get_or_read c.args.names.now c.loop-i.i c.index-names-i.result (omega arith) c.index-names-i.is [])) c.loop-i.invariant
    c.in_err-gather_pieces.ensures)

pub returns : goal.returns
returns g c =
    Gathers-ok
    (subst (λ t. Gathered (g.F.Files.told c.args.files.now) (g.F.Files.told c.loop-i.files) c.args.page.now c.loop-i.page t)
    (all_of_range (λ i. line_text (symbol_line c.args.letter c.args.names.now i)) (length c.args.names.now) c.loop-i.i (omega (arith, c.loop-i-test.false))) c.loop-i.invariant)
