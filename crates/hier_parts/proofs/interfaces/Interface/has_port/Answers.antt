use Rattle.std.proofs.Common.{ap, ◌∙◌}
use Rattle.semantics.specs.Refusals.{has_name}
use Rattle.hierarchy_semantics.specs.Models.{BlifModel}
use Rattle.hier_parts.proofs.Sets.{has-set}
use Rattle.hier_parts.proofs.interfaces.Interface.has_port.Goals as goal

pub returns : goal.returns
returns c =
    let name = c.args.name.now in
    c.contains.ensures ∙ ap (λ v. has_name v name) c.self.invariant.0 ∙ has-set c.self.inside.model.now.ports name ∙ ap (λ (m : BlifModel). has_name m.ports name) c.self.view_is
