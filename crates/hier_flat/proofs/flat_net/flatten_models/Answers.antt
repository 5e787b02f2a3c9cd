use Rattle.std.proofs.Common.{sym, ◌∙◌}
use Rattle.hierarchy_semantics.specs.Refusals.{model_names}
use Rattle.hier_parts.proofs.Sets.{same-set}
use Rattle.hier_flat.proofs.NetMade.{names_once, first_main}
use Rattle.hier_flat.proofs.flat_net.flatten_models.Goals as goal

pub model_order-requires-clause-names : goal.model_order-requires-clause-names
model_order-requires-clause-names c = let h = c.args.models.now in c.in_ok-known.ensures ∙ same-set (model_names h) (names_once h c.requires)

pub new-requires-clause-names : goal.new-requires-clause-names
new-requires-clause-names c = let h = c.args.models.now in c.in_ok-known.ensures ∙ same-set (model_names h) (names_once h c.requires)

pub counted_net-requires-clause-main : goal.counted_net-requires-clause-main
counted_net-requires-clause-main c = first_main c.args.models.now c.in-Some.main.now (sym c.in-Some.ensures.value)
