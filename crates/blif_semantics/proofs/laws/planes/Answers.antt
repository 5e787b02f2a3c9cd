use Rattle.blif_semantics.proofs.Planes.{planes}
use Rattle.blif_semantics.proofs.laws.planes.Goals as goal

pub returns : goal.returns
returns c = planes
