-- by computation
use Rattle.std.proofs.Common.{refl}
use Rattle.std.specs.Fmt.{digits}
use Rattle.semantics.specs.Texts.{text_of}
use Rattle.semantics.specs.Blif.{blif_text}
use Rattle.quality_semantics.specs.Quality.{word_quality, quality}
use Rattle.quality_semantics.specs.Buses.{binary}
use Rattle.quality_semantics.proofs.examples.absolute.Goals as goal

pub returns : goal.returns
unfolding text_of blif_text digits word_quality quality binary
returns c = record {
  one_bit = refl;
  one_bit_output = refl;
  one_bit_rows = refl;
  two_bits = (refl, refl, refl);
  never = refl;
  million = refl;
  constants = (refl, refl);
  empty_sum = refl;
  names = refl;
  never_text = refl;
}
