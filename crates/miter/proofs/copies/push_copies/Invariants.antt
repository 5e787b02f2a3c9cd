use Rattle.std.proofs.Common.{◌≡◌, ◌++◌, drop}
use Rattle.quality_semantics.specs.Joint.{copied_from, copied}
use Rattle.miter.specs.Copies.{placed}
use Rattle.miter.proofs.copies.push_copies.Given as goal

-- with those to come, the list is whole
abbrev pub invariant-loop-t : goal.invariant-loop-t
invariant-loop-t l =
    l.tables ++ copied_from l.t l.letter (placed l.inputs l.first) (drop l.t l.net.tables) ≡ l.initial.tables ++ copied l.letter (placed l.inputs l.first) l.net.tables
