-- by computation
use Rattle.std.proofs.Common.{refl}
use Rattle.semantics.specs.Value.{after_rounds, value_of, outputs_of}
use Rattle.semantics.specs.Error.{error_of, net_error}
use Rattle.semantics.specs.Vectors.{all_vectors}
use Rattle.semantics.proofs.examples.words.Goals as goal

pub returns : goal.returns
unfolding after_rounds value_of outputs_of all_vectors error_of net_error
returns c = record {
  words = (refl, refl, refl, refl);
  none = (refl, refl, refl);
  in_twos = (refl, refl, refl);
  in_threes = refl;
  shorter = (refl, refl);
  as_one_word = (refl, refl, refl);
  as_two_words = (refl, refl, refl);
  in_bits = (refl, refl, refl);
  two_outputs = (refl, refl);
}
