use Rattle.quality_semantics.proofs.Numbers.{input_bits, constant_number, add_number, times_number, greater_value, exceed_value, not_zero_number}
use Rattle.quality_semantics.proofs.Signed.{flip_number}
use Rattle.quality_semantics.proofs.Counts.{differ_count, at_least_value}
use Rattle.quality_semantics.proofs.laws.buses.Goals as goal

pub returns : goal.returns
returns c = record {
  input = input_bits;
  constant = constant_number;
  add = add_number;
  times = times_number;
  greater = greater_value;
  exceed = exceed_value;
  not_zero_low = not_zero_number;
  flip_top = flip_number;
  differ = differ_count;
  at_least = at_least_value;
}
