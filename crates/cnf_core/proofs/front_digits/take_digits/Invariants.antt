use Rattle.std.proofs.Common.{◌≡◌}
use Rattle.cnf_core.specs.FrontDigits.{DigitsLead}
use Rattle.cnf_core.proofs.front_digits.take_digits.Given as goal

-- the bytes so far are digits, which lead to the number so far
abbrev pub invariant-loop-count : goal.invariant-loop-count
invariant-loop-count l = (DigitsLead l.number l.bytes l.size l.count) × (l.count ≡ 0 → l.size ≡ l.number)
