-- by computation
use Rattle.std.proofs.Common.{refl}
use Rattle.semantics.specs.Value.{after_rounds, value_of, outputs_of}
use Rattle.semantics.specs.Error.{error_of, net_error}
use Rattle.semantics.specs.Vectors.{all_vectors}
use Rattle.semantics.proofs.examples.errors.Goals as goal

pub returns : goal.returns
unfolding after_rounds value_of outputs_of all_vectors error_of net_error
returns c = record {
  three_and_two = (refl, refl, refl);
  nothing_and_three = (refl, refl, refl);
  equal = (refl, refl, refl);
  largest = (refl, refl, refl);
  unchanged = refl;
  same_or = refl;
  other_metrics = (refl, refl);
  sum_is_constant = refl;
  carry_too = refl;
  carry_to_one = refl;
}
