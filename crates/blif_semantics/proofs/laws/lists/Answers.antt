use Rattle.blif_semantics.proofs.ListLines.{inputs-joined, inputs-line, inputs-none, outputs-joined, outputs-line, outputs-none}
use Rattle.blif_semantics.proofs.laws.lists.Goals as goal

pub returns : goal.returns
returns c = record {
  inputs_joined = inputs-joined;
  inputs_line = inputs-line;
  no_inputs_line = inputs-none;
  outputs_joined = outputs-joined;
  outputs_line = outputs-line;
  no_outputs_line = outputs-none;
}
