use Rattle.std.proofs.Common.{◌≡◌, ◌+◌, ◌-◌, ◌*◌, ◌≤◌, drop, fold}
use Rattle.std.specs.List.{list_all}
use Rattle.semantics.specs.Decimal.{digits_number, is_digit}
use Rattle.decimal_words.proofs.decimal.number_from_to.Given as goal

abbrev pub invariant-loop-digit : goal.invariant-loop-digit
invariant-loop-digit l = record {
  value : fold (λ n c. 10 * n + (c - 48)) l.number (drop l.digit-index l.word) ≡ digits_number l.word;
  digits : list_all is_digit (drop l.digit-index l.word) ≡ list_all is_digit l.word;
  small : l.number ≤ l.high;
}
