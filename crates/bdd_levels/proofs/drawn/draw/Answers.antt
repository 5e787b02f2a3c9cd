use Rattle.std.proofs.Common.{List, ℕ, subst}
use Rattle.bdd_nets.specs.Signals.{AreOutputsOf}
use Rattle.bdd_levels.proofs.Drawing.{variables_later}
use Rattle.bdd_levels.proofs.drawn.draw.Goals as goal

pub returns : goal.returns
returns c = record {
  inputs_are = variables_later c.variable_diagrams.new.d c.output_diagrams.new.d c.args.variables.now c.in_ok-inputs.inputs.items c.in_ok-outputs.ensures.grows c.in_ok-inputs.ensures.variables;
  outputs_are = subst (λ (l : List ℕ). AreOutputsOf c.output_diagrams.new.d c.args.net.now l c.in_ok-outputs.outputs.items) c.deref.ensures.value c.in_ok-outputs.ensures.outputs;
}
