-- by computation
use Rattle.std.proofs.Common.{refl}
use Rattle.quality_semantics.specs.Quality.{word_quality, quality}
use Rattle.quality_semantics.specs.Buses.{binary}
use Rattle.quality_semantics.proofs.examples.signed.Goals as goal

pub returns : goal.returns
unfolding word_quality quality binary
returns c = record {
  two_bits = refl;
  two_bits_output = refl;
  two_bits_rows = refl;
  one_bit = refl;
  one_bit_counts = (refl, refl, refl);
  one_bit_begins = refl;
  never = refl;
  flipped = refl;
}
