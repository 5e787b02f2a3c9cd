use Rattle.std.proofs.Common.{[], ◌∷◌, map, ap, ◌∙◌, arith}
use Rattle.std.proofs.lemmas.List.{get_or_append_left}
use Rattle.std.proofs.lemmas.Result.{err_from_is_err_and}
use Rattle.file_core.proofs.Gathering.{Gathered-nil}
use Rattle.file_core.proofs.Outcomes.{Gathers-next}
use Rattle.file_core.proofs.Parts.{Gathered-next}
use Rattle.blif_writing.proofs.writing.write_inputs.Goals as goal

pub loop-s-init : goal.loop-s-init
loop-s-init g c = Gathered-nil _ _

pub loop-s-preserved : goal.loop-s-preserved
loop-s-preserved g c =
    Gathered-next (λ word. 32 ∷ word) c.args.net.now.inputs c.loop-s.s [] (omega arith)
    (ap (λ word. 32 ∷ word) (c.signal_name.ensures.value ∙ get_or_append_left c.args.net.now.inputs (map (λ t. t.name) c.args.net.now.tables) [] c.loop-s.s (omega arith))) c.loop-s.invariant
    c.in_ok-write_name.ensures.ok

pub returns-in_err-write_name : goal.returns-in_err-write_name
returns-in_err-write_name g c =
    let p = err_from_is_err_and c.from_residual.result c.from_residual.ensures.1 in
    rw p.1
    (Gathers-next (λ word. 32 ∷ word) c.args.net.now.inputs c.loop-s.s [] (omega arith)
    (ap (λ word. 32 ∷ word) (c.signal_name.ensures.value ∙ get_or_append_left c.args.net.now.inputs (map (λ t. t.name) c.args.net.now.tables) [] c.loop-s.s (omega arith))) c.loop-s.invariant
    c.in_err-write_name.ensures)
