use Rattle.std.proofs.Common.{◌+◌, [], ap, length, ◌∙◌, arith}
use Rattle.aiger_text.proofs.PortSteps.{port, output-signal}
use Rattle.aiger_text.proofs.ports.Ports.output_signal.Goals as goal

pub overflow_add-result : goal.overflow_add-result
overflow_add-result c =
    let is =
    output-signal c.args.circuit.now c.requires.read c.args.self.now c.requires.ports c.output_names.result.now c.output_names.ensures c.outputs.result.now c.outputs.ensures c.args.i c.requires.output
    c.index-output_names-i.result c.index-output_names-i.is c.place-place.result c.place-place.ensures (port [] 0) in
    omega (arith, is.0, c.requires.read.few, ap length c.lines.ensures)

pub overflow_cast-result-else-place-inputs : goal.overflow_cast-result-else-place-inputs
overflow_cast-result-else-place-inputs c =
    let is =
    output-signal c.args.circuit.now c.requires.read c.args.self.now c.requires.ports c.output_names.result.now c.output_names.ensures c.outputs.result.now c.outputs.ensures c.args.i c.requires.output
    c.index-output_names-i.result c.index-output_names-i.is c.place-place.result c.place-place.ensures (port [] 0) in
    omega (arith, is.0, c.requires.read.few, ap length c.lines.ensures)

pub returns-then-place-inputs : goal.returns-then-place-inputs
returns-then-place-inputs c = λ d.
    let is =
    output-signal c.args.circuit.now c.requires.read c.args.self.now c.requires.ports c.output_names.result.now c.output_names.ensures c.outputs.result.now c.outputs.ensures c.args.i c.requires.output
    c.index-output_names-i.result c.index-output_names-i.is c.place-place.result c.place-place.ensures d in
    is.1.0 (omega (arith, c.if-place-inputs.true, ap length c.inputs.ensures))

pub returns-else-place-inputs : goal.returns-else-place-inputs
returns-else-place-inputs c = λ d.
    let is =
    output-signal c.args.circuit.now c.requires.read c.args.self.now c.requires.ports c.output_names.result.now c.output_names.ensures c.outputs.result.now c.outputs.ensures c.args.i c.requires.output
    c.index-output_names-i.result c.index-output_names-i.is c.place-place.result c.place-place.ensures d in
    ap (λ n. c.place-place.result + n) (ap length c.lines.ensures) ∙ is.1.1 (omega (arith, c.if-place-inputs.false, ap length c.inputs.ensures))
