use Rattle.std.proofs.Common.{◌≡◌, take}
use Rattle.aiger_semantics.specs.NetCircuit.{rows_ands}
use Rattle.aiger_text.proofs.lines.rows_ands.Given as goal

abbrev pub invariant-loop-row : goal.invariant-loop-row
invariant-loop-row l = l.count ≡ rows_ands (take l.row-index l.rows)
