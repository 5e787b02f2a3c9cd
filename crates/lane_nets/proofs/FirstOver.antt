-- Nets with the same ports have as many inputs and outputs.
use Rattle.std.proofs.Common.{◌≡◌, length, ap, sym, ◌∙◌}
use Rattle.std.proofs.lemmas.List.{length-map}
use Rattle.semantics.specs.Net.{NetValue, input_count, signal_names, name_of, HasSamePorts}

pub same_inputs : (E N : NetValue) → HasSamePorts E N → input_count N ≡ input_count E
same_inputs E N ports = ap length (sym ports.inputs)

pub same_outputs : (E N : NetValue) → HasSamePorts E N → length N.outputs ≡ length E.outputs
same_outputs E N ports =
    sym (length-map N.outputs (name_of (signal_names N))) ∙ ap length (sym ports.outputs) ∙ length-map E.outputs (name_of (signal_names E))
