use Rattle.std.proofs.Common.{◌≡◌, map, take}
use Rattle.aiger_semantics.specs.ReadNet.{and_table}
use Rattle.aiger_text.proofs.conjunctions.and_tables.Given as goal

abbrev pub invariant-loop-line : goal.invariant-loop-line
invariant-loop-line l = l.tables ≡ map (and_table l.variables) (take l.line-index l.lines)
