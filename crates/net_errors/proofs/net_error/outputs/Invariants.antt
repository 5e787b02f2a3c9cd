use Rattle.std.proofs.Common.{◌≡◌, map, take}
use Rattle.semantics.specs.Net.{input_count}
use Rattle.semantics.specs.Value.{value_of}
use Rattle.net_errors.proofs.net_error.outputs.Given as goal

abbrev pub invariant-loop-i : goal.invariant-loop-i
invariant-loop-i l = l.word ≡ map (value_of (input_count l.net) l.net.tables l.x) (take l.i l.net.outputs)
