use Rattle.quality_semantics.proofs.Growth.{Fits-values, Fits-earlier}
use Rattle.quality_semantics.proofs.laws.fitting.Goals as goal

pub returns : goal.returns
returns c = record { values = Fits-values; earlier = Fits-earlier }
