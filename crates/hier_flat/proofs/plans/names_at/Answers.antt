use Rattle.std.proofs.Common.{sym, ◌∙◌}
use Rattle.hier_parts.specs.Driven.{driven_names}
use Rattle.hier_flat.proofs.Planned.{mapped_named, nameless}
use Rattle.hier_flat.proofs.plans.names_at.Goals as goal

pub returns-in-Some : goal.returns-in-Some
returns-in-Some c = λ h name same is. c.index-all-i.is ∙ mapped_named (driven_names h) h name c.args.all.now c.in-Some.i c.index-all-i.result same (sym c.in-Some.is ∙ is)

pub returns-in-None : goal.returns-in-None
returns-in-None c = λ h name same is. c.requires.none ∙ nameless h name (sym c.in-None.is ∙ is)
