use Rattle.std.proofs.Common.{List, ℕ, ap, map, slice_index_or, ◌∙◌}
use Rattle.aig_core.proofs.Signals.{outputs_are}
use Rattle.aig_core.proofs.nets.output_literals.Goals as goal

pub returns-clause-outputs : goal.returns-clause-outputs
returns-clause-outputs c =
    outputs_are c.signal_literals.new.g c.args.net.now c.args.inputs.now c.in_ok-signals.signals.items c.in_ok-literals_of.field-0.items c.requires.count c.in_ok-signals.ensures.signals
    c.see_sound.ensures.sound.outputs_are_signals
    (c.in_ok-literals_of.ensures ∙ ap (λ (l : List ℕ). map (λ s. slice_index_or l s 0) c.output_signals.result.now) c.deref.ensures.value
    ∙ ap (map (λ s. slice_index_or c.in_ok-signals.signals.items s 0)) c.output_signals.ensures)
