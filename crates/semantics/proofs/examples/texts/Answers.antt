-- by computation
use Rattle.std.proofs.Common.{refl}
use Rattle.semantics.specs.Texts.{text_of}
use Rattle.semantics.specs.Blif.{blif_text}
use Rattle.semantics.proofs.examples.texts.Goals as goal

pub returns : goal.returns
unfolding text_of blif_text
returns c = record {
  half_adder_text = refl;
  half_adder_length = refl;
  lengths = (refl, refl);
  both_constant_text = refl;
  wire_text = refl;
  constant_text = refl;
  planes = refl;
}
