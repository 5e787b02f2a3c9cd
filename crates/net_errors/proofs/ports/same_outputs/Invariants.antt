use Rattle.std.proofs.Common.{◌≡◌, take}
use Rattle.net_errors.proofs.PortNames.{output_names}
use Rattle.net_errors.proofs.ports.same_outputs.Given as goal

-- the first i are the same
abbrev pub invariant-loop-i : goal.invariant-loop-i
invariant-loop-i l = take l.i (output_names l.n) ≡ take l.i (output_names l.m)
