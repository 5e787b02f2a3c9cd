use Rattle.std.proofs.Common.{◌≡◌, map, take}
use Rattle.aiger_semantics.specs.ReadNet.{port_signal, output_ports}
use Rattle.aiger_text.proofs.ports.Ports.output_signals.Given as goal

abbrev pub invariant-loop-i : goal.invariant-loop-i
invariant-loop-i l = l.signals ≡ map (port_signal l.circuit) (take l.i (output_ports l.circuit))
