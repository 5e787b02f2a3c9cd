-- by computation
use Rattle.std.proofs.Common.{refl}
use Rattle.std.specs.Fmt.{digits}
use Rattle.semantics.specs.Texts.{text_of}
use Rattle.semantics.specs.Blif.{blif_text}
use Rattle.quality_semantics.specs.Quality.{word_quality, quality}
use Rattle.quality_semantics.specs.Buses.{binary}
use Rattle.quality_semantics.proofs.examples.others.Goals as goal

pub returns : goal.returns
unfolding text_of blif_text digits word_quality quality binary
returns c = record {
  differing_bit = refl;
  differing_output = refl;
  differing_text = refl;
  two_differing_bits = refl;
  two_differing_output = refl;
  at_least_none = refl;
  never_differing = refl;
  relative_begins = refl;
  relative_tables = (refl, refl);
  relative_rows = refl;
  relative_half = (refl, refl);
  relative_operands = refl;
  relative_counts = (refl, refl);
  never_relative = refl;
  low_of_three = refl;
  not_zero = refl;
  tripled = refl;
}
