use Rattle.aiger_text.proofs.NetLiterals.{AreInputs}
use Rattle.aiger_text.proofs.signals.input_literals.Given as goal

abbrev pub invariant-loop-i : goal.invariant-loop-i
invariant-loop-i l = AreInputs l.i l.room l.literals.items
