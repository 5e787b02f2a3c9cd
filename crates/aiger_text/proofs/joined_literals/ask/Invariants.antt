use Rattle.std.proofs.Common.{◌≡◌, take, get_or}
use Rattle.aiger_semantics.specs.NetCircuit.{row_inputs}
use Rattle.aiger_text.proofs.joined_literals.ask.Given as goal

abbrev pub invariant-loop-i : goal.invariant-loop-i
invariant-loop-i l = l.asked.items ≡ row_inputs (λ s. get_or l.literals s 0) (take l.i l.marks) l.pins
