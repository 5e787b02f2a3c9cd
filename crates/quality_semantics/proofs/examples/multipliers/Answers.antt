-- by computation
use Rattle.std.proofs.Common.{refl}
use Rattle.std.specs.Fmt.{digits}
use Rattle.semantics.specs.Texts.{text_of}
use Rattle.semantics.specs.Blif.{blif_text}
use Rattle.quality_semantics.specs.Multiply.{multiplier}
use Rattle.quality_semantics.proofs.examples.multipliers.Goals as goal

pub returns : goal.returns
unfolding text_of blif_text digits multiplier
returns c = record { tables = (refl, refl, refl); bits = (refl, refl, refl); two_bits = refl; outputs = refl; one_bit_text = refl; widths_of_four = refl; widths_of_five = refl }
