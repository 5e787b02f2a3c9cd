use Rattle.std.proofs.Common.{◌≡◌, ◌++◌, ℕ, List, take}
use Rattle.net_moves.specs.Left.{first_once}
use Rattle.net_moves.proofs.near.NearSignals.add_all.Given as goal

abbrev pub invariant-loop-s : goal.invariant-loop-s
invariant-loop-s l = (before : List ℕ) → l.fn.self ≡ first_once before → l.self ≡ first_once (before ++ take l.s-index l.signals)
