-- by computation
use Rattle.std.proofs.Common.{refl}
use Rattle.semantics.specs.Value.{after_rounds, value_of, outputs_of}
use Rattle.semantics.specs.Error.{error_of, net_error}
use Rattle.semantics.specs.Vectors.{all_vectors}
use Rattle.semantics.proofs.examples.signed_errors.Goals as goal

pub returns : goal.returns
unfolding after_rounds value_of outputs_of all_vectors error_of net_error
returns c = record {
  none = refl;
  one_bit = refl;
  two_bits = refl;
  ends = (refl, refl);
  flipped = refl;
  flipped_none = refl;
  two_against_one = refl;
  one_against_none = refl;
  no_bits = refl;
  largest = refl;
  sum_is_constant = refl;
  carry_too = refl;
  carry_to_one = refl;
  carry_as_b = refl;
  carry_as_a = refl;
}
