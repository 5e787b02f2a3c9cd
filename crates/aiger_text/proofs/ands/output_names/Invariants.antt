use Rattle.std.proofs.Common.{◌≡◌, map, take}
use Rattle.semantics.specs.Net.{signal_names, name_of}
use Rattle.aiger_text.proofs.ands.output_names.Given as goal

abbrev pub invariant-loop-i : goal.invariant-loop-i
invariant-loop-i l = l.names ≡ map (name_of (signal_names l.net)) (take l.i l.net.outputs)
