use Rattle.std.proofs.Common.{◌≡◌, take}
use Rattle.net_errors.proofs.ports.same_inputs.Given as goal

-- the first i are the same
abbrev pub invariant-loop-i : goal.invariant-loop-i
invariant-loop-i l = take l.i l.n.inputs ≡ take l.i l.m.inputs
