use Rattle.blif_semantics.proofs.ReadNet.{read_sound, read_small, read_short}
use Rattle.blif_semantics.proofs.Lengths.{long}
use Rattle.blif_semantics.proofs.laws.readings.Goals as goal

pub returns : goal.returns
returns c = record { sound = read_sound; small = read_small; short = read_short; long = long }
