use Rattle.std.proofs.Common.{◌+◌, List, ℕ, map, get_or, ap, ◌∙◌}
use Rattle.std.specs.List.{range_with_len}
use Rattle.semantics.specs.Net.{input_count}
use Rattle.aiger_semantics.specs.NetCircuit.{tables_joins}
use Rattle.aiger_semantics.proofs.FewLines.{small_fits}
use Rattle.aiger_text.proofs.NetAnds.{circuit_of, circuit_few}
use Rattle.aiger_text.proofs.ands.Ands.of_net.Goals as goal

pub first_variables-requires : goal.first_variables-requires
first_variables-requires c = record { fits = small_fits c.args.net.now c.requires c.inputs-inputs.ensures.built.sound.tables_formed }

pub signal_literals-requires-clause-fits : goal.signal_literals-requires-clause-fits
signal_literals-requires-clause-fits c = small_fits c.args.net.now c.requires c.inputs-inputs.ensures.built.sound.tables_formed

pub net_lines-requires-clause-fits : goal.net_lines-requires-clause-fits
net_lines-requires-clause-fits c = small_fits c.args.net.now c.requires c.inputs-inputs.ensures.built.sound.tables_formed

pub invariant_of-result : goal.invariant_of-result
invariant_of-result c =
    circuit_few c.args.net.now c.in_ok-input_variables.field-0 c.in_ok-net_lines.field-0 (λ s. get_or c.deref-3.result.now s 0) c.inputs-inputs.ensures.built.sound
    (c.in_ok-input_variables.ensures ∙ ap (range_with_len 1) c.inputs-inputs.ensures.value) c.in_ok-net_lines.ensures
    (small_fits c.args.net.now c.requires c.inputs-inputs.ensures.built.sound.tables_formed)

pub returns : goal.returns
returns c =
    circuit_of c.args.net.now _ c.in_ok-literals.literals.items c.inputs-inputs.ensures.built.sound c.in_ok-literals.ensures.values
    (c.in_ok-input_variables.ensures ∙ ap (range_with_len 1) c.inputs-inputs.ensures.value)
    (c.in_ok-net_lines.ensures ∙ ap (λ (ls : List ℕ). tables_joins (λ s. get_or ls s 0) (input_count c.args.net.now + 1) c.args.net.now.tables) c.deref-3.ensures.value)
    (c.in_ok-output_literals.ensures ∙ ap (λ (ls : List ℕ). map (λ s. get_or ls s 0) c.args.net.now.outputs) c.deref-4.ensures.value)
    (c.in_ok-from_slice.ensures ∙ c.input_names.ensures)
    c.in_ok-output_names.ensures
