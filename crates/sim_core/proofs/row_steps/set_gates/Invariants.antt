use Rattle.std.proofs.Common.{◌≡◌, List, Bool, length}
use Rattle.aig_core.specs.Graph.{gate_node}
use Rattle.sim_core.specs.Simulation.{HaveValues}
use Rattle.sim_core.proofs.row_steps.set_gates.Given as goal

abbrev pub invariant-loop-i : goal.invariant-loop-i
invariant-loop-i l = (vectors : List (List Bool)) → length vectors ≡ l.count → HaveValues l.aig vectors l.initial.rows (gate_node l.aig 0) → HaveValues l.aig vectors l.rows (gate_node l.aig l.i)
