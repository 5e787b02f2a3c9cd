use Rattle.std.proofs.Common.{◌≡◌, ◌++◌, map, take, drop}
use Rattle.semantics.specs.Renamed.{redirect}
use Rattle.net_tidy.proofs.table_draft.redirect.Given as goal

abbrev pub invariant-loop-pin : goal.invariant-loop-pin
invariant-loop-pin l = l.pins ≡ map (redirect l.from l.to) (take l.pin-index l.fn.pins) ++ drop l.pin-index l.fn.pins
