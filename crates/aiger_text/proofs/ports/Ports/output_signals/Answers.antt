use Rattle.std.proofs.Common.{[], map, ap, length, ◌∙◌, arith}
use Rattle.std.proofs.lemmas.List.{take_all}
use Rattle.aiger_semantics.specs.ReadNet.{port_signal, output_ports}
use Rattle.aiger_text.proofs.PortSteps.{port, outputs-count, signals-next}
use Rattle.aiger_text.proofs.ports.Ports.output_signals.Goals as goal

pub loop-i-preserved : goal.loop-i-preserved
loop-i-preserved c =
    c.in_ok-push.ensures.ok
    ∙ signals-next (port_signal c.args.circuit.now) (output_ports c.args.circuit.now) c.loop-i.i (port [] 0) c.output_signal.result c.loop-i.signals
    (omega (arith, c.loop-i-test.true, ap length c.outputs-i-end.ensures, outputs-count c.args.circuit.now c.requires.read)) (c.output_signal.ensures (port [] 0)) c.loop-i.invariant

pub returns : goal.returns
returns c =
    c.loop-i.invariant
    ∙ ap (map (port_signal c.args.circuit.now))
    (take_all c.loop-i.i (output_ports c.args.circuit.now) (omega (arith, c.loop-i-test.false, ap length c.outputs-i-end.ensures, outputs-count c.args.circuit.now c.requires.read)))
