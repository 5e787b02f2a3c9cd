use Rattle.aiger_semantics.proofs.Numbered.{all_variables, all_lines, all_outputs}
use Rattle.aiger_semantics.proofs.laws.numbered.Goals as goal

pub returns : goal.returns
returns c = record { variables = all_variables; lines = all_lines; outputs = all_outputs }
