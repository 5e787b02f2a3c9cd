use Rattle.std.proofs.Common.{◌≡◌, ◌-◌, ◌≤◌, length}
use Rattle.cnf_core.specs.Drafts.{HasGrown}
use Rattle.cnf_core.specs.FrontNumbers.{NumbersLead}
use Rattle.cnf_core.proofs.front_numbers.take_numbers.Given as goal

-- the bytes so far are numbers, by which the list at hand has grown
abbrev pub invariant-numbers : goal.invariant-numbers
invariant-numbers l = record {
  lead : NumbersLead l.fn.numbers.at_hand l.bytes l.numbers.at_hand l.count;
  none : l.count ≡ 0 → l.numbers ≡ l.fn.numbers;
  within : l.count ≤ length l.bytes;
  grown : HasGrown l.fn.numbers l.numbers;
}

abbrev pub decreases-numbers : goal.decreases-numbers
decreases-numbers l = length l.bytes - l.count
