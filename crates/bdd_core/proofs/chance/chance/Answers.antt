use Rattle.std.proofs.Common.{ap}
use Rattle.bdd_core.specs.Chance.{chance}
use Rattle.bdd_core.proofs.chance.chance.Goals as goal

pub returns : goal.returns
unfolding chance
returns c = ap (λ seed. chance seed c.args.at) c.from.ensures
