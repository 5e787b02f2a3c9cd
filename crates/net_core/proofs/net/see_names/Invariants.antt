use Rattle.std.proofs.Common.{take, All}
use Rattle.semantics.specs.Net.{IsName}
use Rattle.net_core.proofs.net.see_names.Given as goal

abbrev pub invariant-loop-name : goal.invariant-loop-name
invariant-loop-name l = All IsName (take l.name-index l.names)
