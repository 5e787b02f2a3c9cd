use Rattle.std.proofs.Common.{◌≡◌, drop}
use Rattle.chain_semantics.specs.Moves.{literal_pins}
use Rattle.net_moves.proofs.literals.first_literal.Given as goal

abbrev pub invariant-loop-pin : goal.invariant-loop-pin
invariant-loop-pin l = literal_pins l.from (drop l.from l.marks) ≡ literal_pins l.pin (drop l.pin l.marks)
