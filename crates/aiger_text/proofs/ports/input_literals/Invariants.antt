use Rattle.std.proofs.Common.{◌≡◌, map, take}
use Rattle.aiger_semantics.specs.Circuit.{literal_of_variable}
use Rattle.aiger_text.proofs.ports.input_literals.Given as goal

abbrev pub invariant-loop-variable : goal.invariant-loop-variable
invariant-loop-variable l = l.literals.items ≡ map literal_of_variable (take l.variable-index l.inputs)
