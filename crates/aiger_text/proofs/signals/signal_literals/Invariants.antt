use Rattle.semantics.specs.Net.{input_count}
use Rattle.aiger_text.proofs.NetLiterals.{AreSignals}
use Rattle.aiger_text.proofs.signals.signal_literals.Given as goal

abbrev pub invariant-loop-t : goal.invariant-loop-t
invariant-loop-t l = AreSignals (input_count l.net) l.net.tables l.t-items l.t-index l.literals.items
