use Rattle.std.proofs.Common.{◌≡◌, ◌++◌, take}
use Rattle.std.specs.List.{flat_map}
use Rattle.chain_semantics.specs.Moves.{pins_of}
use Rattle.net_moves.specs.Left.{first_once}
use Rattle.net_moves.proofs.near.NearSignals.find.Given as goal

abbrev pub invariant-loop-pin : goal.invariant-loop-pin
invariant-loop-pin l = l.self ≡ first_once (l.pins ++ flat_map (pins_of l.net) (take l.pin-index l.pins))
