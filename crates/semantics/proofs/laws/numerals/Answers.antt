use Rattle.semantics.proofs.Numerals.{is_decimal-decimal, digits_number-decimal, decimal_from}
use Rattle.semantics.proofs.laws.numerals.Goals as goal

pub returns : goal.returns
returns c = record {
  decimal_word = is_decimal-decimal;
  number = digits_number-decimal;
  only = decimal_from;
}
