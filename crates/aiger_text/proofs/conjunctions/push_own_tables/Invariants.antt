use Rattle.std.proofs.Common.{◌≡◌, ◌-◌, ◌++◌, map, take, length}
use Rattle.aiger_semantics.specs.ReadNet.{output_table, own_outputs}
use Rattle.aiger_text.proofs.conjunctions.push_own_tables.Given as goal

abbrev pub invariant-loop-place : goal.invariant-loop-place
invariant-loop-place l = l.tables ≡ l.fn.tables ++ map (output_table l.variables) (take (l.place - length l.circuit.inputs) (own_outputs l.circuit))
