use Rattle.quality_semantics.proofs.Rounding.{rounded_up_exceeds}
use Rattle.quality_semantics.proofs.laws.rounding.Goals as goal

pub returns : goal.returns
returns c = rounded_up_exceeds
