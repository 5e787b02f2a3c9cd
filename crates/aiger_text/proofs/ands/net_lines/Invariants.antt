use Rattle.std.proofs.Common.{◌≡◌, ◌+◌, take, get_or}
use Rattle.semantics.specs.Net.{input_count}
use Rattle.aiger_semantics.specs.NetCircuit.{tables_joins}
use Rattle.aiger_text.proofs.ands.net_lines.Given as goal

abbrev pub invariant-loop-t : goal.invariant-loop-t
invariant-loop-t l = l.lines ≡ tables_joins (λ s. get_or l.literals s 0) (input_count l.net + 1) (take l.t l.net.tables)
