use Rattle.std.proofs.Common.{◌≡◌, map, take}
use Rattle.bdd_core.specs.Diagrams.{at_bits}
use Rattle.bdd_nets.proofs.ever_true.values_of.Given as goal

abbrev pub invariant-loop-variable : goal.invariant-loop-variable
invariant-loop-variable l = l.bits.items ≡ map (at_bits l.x) (take l.variable-index l.variables)
