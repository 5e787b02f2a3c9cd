use Rattle.std.proofs.Common.{map, ap, ◌∙◌}
use Rattle.aiger_semantics.specs.Circuit.{literal_of_variable}
use Rattle.aiger_text.proofs.PortSteps.{ports-of}
use Rattle.aiger_text.proofs.ports.Ports.of.Goals as goal

pub returns : goal.returns
returns c =
    ports-of c.args.circuit.now c.requires.differ c.new-all.result c.add_all.new.self c.add_all-2.new.self c.input_names.result.now c.output_names.result.now c.deref.result.now c.outputs.result.now
    c.new-all.ensures c.input_names.ensures (c.deref.ensures.value ∙ c.in_ok-literals.ensures ∙ ap (map literal_of_variable) c.inputs.ensures) c.in_ok-add_all.ensures c.output_names.ensures
    c.outputs.ensures c.in_ok-add_all-2.ensures
