use Rattle.std.proofs.Common.{◌≡◌, ◌++◌, map, drop}
use Rattle.miter.specs.Copies.{placed}
use Rattle.miter.proofs.copies.push_outputs.Given as goal

-- with those to come, the list is whole
abbrev pub invariant-loop-i : goal.invariant-loop-i
invariant-loop-i l = l.list ++ map (placed l.inputs l.first) (drop l.i l.net.outputs) ≡ l.initial.list ++ map (placed l.inputs l.first) l.net.outputs
