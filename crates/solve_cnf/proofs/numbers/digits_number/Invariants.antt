use Rattle.std.proofs.Common.{◌≡◌, take, drop}
use Rattle.std.specs.List.{list_all}
use Rattle.semantics.specs.Decimal.{is_digit, digits_number}
use Rattle.solve_cnf.specs.Header.{held_number}
use Rattle.solve_cnf.proofs.numbers.digits_number.Given as goal

abbrev pub invariant-loop-digit : goal.invariant-loop-digit
invariant-loop-digit l = record {
  number : l.number ≡ held_number (digits_number (take l.digit-index l.digits));
  digits : list_all is_digit (drop l.digit-index l.digits) ≡ list_all is_digit l.digits;
}
