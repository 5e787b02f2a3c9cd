use Rattle.std.proofs.Common.{sym, ◌∙◌}
use Rattle.hier_parts.proofs.Found.{model-none}
use Rattle.hier_flat.proofs.Planned.{plan_found}
use Rattle.hier_flat.proofs.plans.Plans.at.Goals as goal

pub returns-in-Some-clause-model : goal.returns-in-Some-clause-model
returns-in-Some-clause-model c = λ name is. plan_found c.args.self.now c.self.inside.all.items name c.in-Some.i c.index.result.now c.self.view_is c.index.ensures (sym c.in-Some.is ∙ is)

pub returns-in-None-clause-model : goal.returns-in-None-clause-model
returns-in-None-clause-model c = λ name is. c.self.invariant.2 ∙ model-none c.args.self.now name (sym c.in-None.is ∙ is)
