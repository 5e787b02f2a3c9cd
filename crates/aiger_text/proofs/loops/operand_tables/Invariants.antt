use Rattle.std.proofs.Common.{◌≡◌, map, take}
use Rattle.semantics.specs.Net.{TableValue}
use Rattle.aiger_semantics.specs.Reading.{operand_table}
use Rattle.aiger_text.proofs.loops.operand_tables.Given as goal

abbrev pub invariant-loop-line : goal.invariant-loop-line
invariant-loop-line l = map (λ (t : TableValue). t.pins) l.tables ≡ map (λ (t : TableValue). t.pins) (map (operand_table l.variables) (take l.line-index l.lines))
