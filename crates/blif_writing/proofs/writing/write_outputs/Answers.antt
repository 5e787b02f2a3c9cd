use Rattle.std.proofs.Common.{◌∷◌, ap, ◌∙◌, arith}
use Rattle.semantics.specs.Net.{signal_names, name_of}
use Rattle.std.proofs.lemmas.Result.{err_from_is_err_and}
use Rattle.file_core.proofs.Gathering.{Gathered-nil}
use Rattle.file_core.proofs.Outcomes.{Gathers-next}
use Rattle.file_core.proofs.Parts.{Gathered-next}
use Rattle.blif_writing.proofs.writing.write_outputs.Goals as goal

pub loop-i-init : goal.loop-i-init
loop-i-init g c = Gathered-nil _ _

pub loop-i-preserved : goal.loop-i-preserved
loop-i-preserved g c =
    Gathered-next (λ s. 32 ∷ name_of (signal_names c.args.net.now) s) c.args.net.now.outputs c.loop-i.i 0 (omega arith)
    (ap (λ word. 32 ∷ word) (c.signal_name.ensures.value ∙ ap (name_of (signal_names c.args.net.now)) c.output.ensures.value)) c.loop-i.invariant c.in_ok-write_name.ensures.ok

pub returns-in_err-write_name : goal.returns-in_err-write_name
returns-in_err-write_name g c =
    let p = err_from_is_err_and c.from_residual.result c.from_residual.ensures.1 in
    rw p.1
    (Gathers-next (λ s. 32 ∷ name_of (signal_names c.args.net.now) s) c.args.net.now.outputs c.loop-i.i 0 (omega arith)
    (ap (λ word. 32 ∷ word) (c.signal_name.ensures.value ∙ ap (name_of (signal_names c.args.net.now)) c.output.ensures.value)) c.loop-i.invariant c.in_err-write_name.ensures)
