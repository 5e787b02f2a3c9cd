use Rattle.std.proofs.Common.{◌≡◌, ◌++◌, drop}
use Rattle.aiger_semantics.specs.ReadNet.{ports, new_ports}
use Rattle.aiger_text.proofs.ports.Ports.add_all.Given as goal

abbrev pub invariant-loop-i : goal.invariant-loop-i
invariant-loop-i l = l.self ++ new_ports l.self (ports (drop l.i l.names) (drop l.i l.literals)) ≡ l.fn.self ++ new_ports l.fn.self (ports l.names l.literals)
