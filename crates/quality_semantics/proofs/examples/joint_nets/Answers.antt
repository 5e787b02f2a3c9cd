-- by computation
use Rattle.std.proofs.Common.{refl}
use Rattle.std.specs.Fmt.{digits}
use Rattle.semantics.specs.Texts.{text_of}
use Rattle.semantics.specs.Blif.{blif_text}
use Rattle.quality_semantics.specs.Quality.{word_quality, quality}
use Rattle.quality_semantics.specs.Buses.{binary}
use Rattle.quality_semantics.specs.Joint.{joint_net}
use Rattle.quality_semantics.proofs.examples.joint_nets.Goals as goal

pub returns : goal.returns
unfolding text_of blif_text digits word_quality quality binary joint_net
returns c = record { of_wires = refl; of_adders = (refl, refl, refl); of_signed_adders = (refl, refl, refl); first_names = refl; first_pins = refl }
