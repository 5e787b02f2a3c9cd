use Rattle.std.proofs.Common.{◌≡◌, ◌++◌, ◌+◌, map, take}
use Rattle.hier_flat.proofs.frames.frame_of.Given as goal

abbrev pub invariant-loop-offset : goal.invariant-loop-offset
invariant-loop-offset l = l.signals ≡ l.initial.signals ++ map (λ s. l.first + s) (take l.offset-index l.offset-items)
