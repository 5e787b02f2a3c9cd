use Rattle.semantics.specs.Net.{input_count}
use Rattle.aiger_text.proofs.NetLiterals.{AreFirsts}
use Rattle.aiger_text.proofs.signals.first_variables.Given as goal

abbrev pub invariant-loop-t : goal.invariant-loop-t
invariant-loop-t l = AreFirsts (input_count l.net) l.net.tables l.t l.next l.firsts.items
