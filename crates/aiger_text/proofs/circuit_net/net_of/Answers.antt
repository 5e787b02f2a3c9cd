use Rattle.std.proofs.Common.{◌≡◌, IfOk, IfErr, Ok, subst, ◌∙◌}
use Rattle.semantics.specs.Net.{NetValue}
use Rattle.aiger_semantics.specs.Circuit.{CircuitValue}
use Rattle.aiger_semantics.specs.ReadNet.{net_of}
use Rattle.aiger_semantics.specs.Reading.{named}
use Rattle.aiger_text.specs.Refusals.{Tells}
use Rattle.aiger_text.proofs.NetSteps.{net-is, few-signals, some-output, none-undriven, none-ungrounded}
use Rattle.aiger_text.proofs.circuit_net.net_of.Goals as goal

pub named_net-requires-clause-few : goal.named_net-requires-clause-few
named_net-requires-clause-few c =
    let circuit : CircuitValue = c.args.circuit.now in
    let N : NetValue = record { model = c.in_ok-model.model; inputs = c.in_ok-inputs.inputs; tables = c.in_ok-tables.tables; outputs = c.in_ok-tables.outputs } in
    let same : N ≡ net_of circuit =
    net-is circuit c.in_ok-model.model c.in_ok-inputs.inputs c.in_ok-tables.tables c.in_ok-tables.outputs c.args.known.now c.requires.known c.in_ok-model.ensures
    (c.in_ok-inputs.ensures ∙ c.input_names.ensures)
    c.in_ok-tables.ensures.tables c.in_ok-tables.ensures.outputs in
    few-signals circuit c.requires.read c.requires.defined N same

pub named_net-requires-clause-output : goal.named_net-requires-clause-output
named_net-requires-clause-output c =
    let circuit : CircuitValue = c.args.circuit.now in
    let N : NetValue = record { model = c.in_ok-model.model; inputs = c.in_ok-inputs.inputs; tables = c.in_ok-tables.tables; outputs = c.in_ok-tables.outputs } in
    let same : N ≡ net_of circuit =
    net-is circuit c.in_ok-model.model c.in_ok-inputs.inputs c.in_ok-tables.tables c.in_ok-tables.outputs c.args.known.now c.requires.known c.in_ok-model.ensures
    (c.in_ok-inputs.ensures ∙ c.input_names.ensures)
    c.in_ok-tables.ensures.tables c.in_ok-tables.ensures.outputs in
    some-output circuit c.requires.read c.requires.defined N same c.requires.output

pub named_net-requires-clause-driven : goal.named_net-requires-clause-driven
named_net-requires-clause-driven c =
    let circuit : CircuitValue = c.args.circuit.now in
    let N : NetValue = record { model = c.in_ok-model.model; inputs = c.in_ok-inputs.inputs; tables = c.in_ok-tables.tables; outputs = c.in_ok-tables.outputs } in
    let same : N ≡ net_of circuit =
    net-is circuit c.in_ok-model.model c.in_ok-inputs.inputs c.in_ok-tables.tables c.in_ok-tables.outputs c.args.known.now c.requires.known c.in_ok-model.ensures
    (c.in_ok-inputs.ensures ∙ c.input_names.ensures)
    c.in_ok-tables.ensures.tables c.in_ok-tables.ensures.outputs in
    none-undriven circuit c.requires.read c.requires.defined N same

pub named_net-requires-clause-grounded : goal.named_net-requires-clause-grounded
named_net-requires-clause-grounded c =
    let circuit : CircuitValue = c.args.circuit.now in
    let N : NetValue = record { model = c.in_ok-model.model; inputs = c.in_ok-inputs.inputs; tables = c.in_ok-tables.tables; outputs = c.in_ok-tables.outputs } in
    let same : N ≡ net_of circuit =
    net-is circuit c.in_ok-model.model c.in_ok-inputs.inputs c.in_ok-tables.tables c.in_ok-tables.outputs c.args.known.now c.requires.known c.in_ok-model.ensures
    (c.in_ok-inputs.ensures ∙ c.input_names.ensures)
    c.in_ok-tables.ensures.tables c.in_ok-tables.ensures.outputs in
    none-ungrounded circuit c.requires.read c.requires.defined N same c.requires.no_loop

pub returns-clause-ok : goal.returns-clause-ok
returns-clause-ok c =
    let circuit : CircuitValue = c.args.circuit.now in
    let N : NetValue = record { model = c.in_ok-model.model; inputs = c.in_ok-inputs.inputs; tables = c.in_ok-tables.tables; outputs = c.in_ok-tables.outputs } in
    let same : N ≡ net_of circuit =
    net-is circuit c.in_ok-model.model c.in_ok-inputs.inputs c.in_ok-tables.tables c.in_ok-tables.outputs c.args.known.now c.requires.known c.in_ok-model.ensures
    (c.in_ok-inputs.ensures ∙ c.input_names.ensures)
    c.in_ok-tables.ensures.tables c.in_ok-tables.ensures.outputs in
    subst (λ (M : NetValue). IfOk c.named_net.result (λ n. named M ≡ Ok n)) same c.named_net.ensures.ok

pub returns-clause-err : goal.returns-clause-err
returns-clause-err c =
    let circuit : CircuitValue = c.args.circuit.now in
    let N : NetValue = record { model = c.in_ok-model.model; inputs = c.in_ok-inputs.inputs; tables = c.in_ok-tables.tables; outputs = c.in_ok-tables.outputs } in
    let same : N ≡ net_of circuit =
    net-is circuit c.in_ok-model.model c.in_ok-inputs.inputs c.in_ok-tables.tables c.in_ok-tables.outputs c.args.known.now c.requires.known c.in_ok-model.ensures
    (c.in_ok-inputs.ensures ∙ c.input_names.ensures)
    c.in_ok-tables.ensures.tables c.in_ok-tables.ensures.outputs in
    subst (λ (M : NetValue). IfErr c.named_net.result (λ told. Tells told (named M))) same c.named_net.ensures.err
