-- by computation
use Rattle.std.proofs.Common.{refl}
use Rattle.quality_semantics.specs.Quality.{word_quality, quality}
use Rattle.quality_semantics.specs.Buses.{binary}
use Rattle.quality_semantics.proofs.examples.words.Goals as goal

pub returns : goal.returns
unfolding word_quality quality binary
returns c = record {
  two_words = refl;
  two_words_output = refl;
  shorter = refl;
  in_bits = refl;
  one_for_all = (refl, refl);
  no_outputs = refl;
  never = refl;
}
