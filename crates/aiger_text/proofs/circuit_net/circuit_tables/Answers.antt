use Rattle.std.proofs.Common.{◌++◌, List, map, ap, ◌∙◌}
use Rattle.semantics.specs.Net.{TableValue}
use Rattle.aiger_semantics.specs.ReadNet.{and_table, output_table, own_outputs}
use Rattle.aiger_text.proofs.circuit_net.circuit_tables.Goals as goal

pub returns : goal.returns
returns c =
    c.in_ok-push_own_tables.ensures
    ∙ ap (λ (ts : List TableValue). ts ++ map (output_table c.args.known.now) (own_outputs c.args.circuit.now)) (c.in_ok-tables.ensures ∙ ap (map (and_table c.args.known.now)) c.lines.ensures)
