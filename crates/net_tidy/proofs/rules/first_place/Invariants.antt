use Rattle.std.proofs.Common.{◌≡◌, ◌+◌, drop}
use Rattle.chain_semantics.specs.TidyRules.{first_place_of}
use Rattle.net_tidy.proofs.rules.first_place.Given as goal

abbrev pub invariant-loop-i : goal.invariant-loop-i
invariant-loop-i l = l.i + first_place_of (drop l.i l.pins) l.s ≡ first_place_of l.pins l.s
