use Rattle.std.proofs.Common.{ℕ, List, length, sym, ap, subst, ◌∙◌}
use Rattle.std.specs.Prelude.{All}
use Rattle.aig_core.specs.Graph.{GraphValue, IsLiteralOf}
use Rattle.aig_core.specs.Signals.{AreSignalsOver}
use Rattle.aig_core.proofs.Signals.{graph_done}
use Rattle.aig_core.proofs.nets.from_net.Goals as goal

pub signal_literals-requires : goal.signal_literals-requires
signal_literals-requires c = record {
  count = ap length c.deref.ensures.value ∙ c.in_ok-inputs.ensures.length ∙ ap (λ (g : GraphValue). g.inputs) c.new-graph.ensures ∙ c.inputs.ensures.value;
  within = subst (All (IsLiteralOf c.new-graph.result)) (sym c.deref.ensures.value) c.in_ok-inputs.ensures.within;
}

pub returns : goal.returns
returns c =
    graph_done c.args.net.now c.new-graph.result c.signal_literals.new.g c.in_ok-inputs.inputs.items c.in_ok-literals.literals.items c.see_sound.ensures.sound.acyclic
    (ap (λ (g : GraphValue). g.inputs) c.new-graph.ensures ∙ c.inputs.ensures.value) c.in_ok-literals.ensures.grows
    c.in_ok-inputs.ensures.length c.in_ok-inputs.ensures.inputs c.in_ok-literals.ensures.length
    (subst (λ (l : List ℕ). AreSignalsOver c.signal_literals.new.g c.args.net.now.tables l c.in_ok-literals.literals.items) c.deref.ensures.value c.in_ok-literals.ensures.signals) c.values.ensures
