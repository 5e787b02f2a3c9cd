use Rattle.std.proofs.Common.{◌∷◌, ap}
use Rattle.semantics.specs.Net.{signal_names, name_of}
use Rattle.std.proofs.lemmas.Result.{err_from_is_err_and}
use Rattle.file_core.proofs.Gathering.{Gathered-nil}
use Rattle.file_core.proofs.Outcomes.{Gathers-next}
use Rattle.file_core.proofs.Parts.{Gathered-next}
use Rattle.blif_writing.proofs.writing.write_signals.Goals as goal

pub loop-s-init : goal.loop-s-init
loop-s-init g c = Gathered-nil _ _

pub loop-s-preserved : goal.loop-s-preserved
loop-s-preserved g c =
    Gathered-next (λ s. 32 ∷ name_of (signal_names c.args.net.now) s) c.args.signals.now c.loop-s.s-index 0 c.loop-s-test.true (ap (λ word. 32 ∷ word) c.signal_name.ensures.value) c.loop-s.invariant
    c.in_ok-write_name.ensures.ok

pub returns-in_err-write_name : goal.returns-in_err-write_name
returns-in_err-write_name g c =
    let p = err_from_is_err_and c.from_residual.result c.from_residual.ensures.1 in
    rw p.1
    (Gathers-next (λ s. 32 ∷ name_of (signal_names c.args.net.now) s) c.args.signals.now c.loop-s.s-index 0 c.loop-s-test.true (ap (λ word. 32 ∷ word) c.signal_name.ensures.value) c.loop-s.invariant
    c.in_err-write_name.ensures)
