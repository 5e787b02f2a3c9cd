use Rattle.std.proofs.Common.{sym, ◌∙◌}
use Rattle.hierarchy_semantics.specs.Flat.{flat_net}
use Rattle.hier_flat.proofs.Checked.{checked_limit}
use Rattle.hier_flat.proofs.NetMade.{flattened_is}
use Rattle.hier_flat.proofs.flat_net.counted_net.Goals as goal

pub made_net-requires-clause-limit : goal.made_net-requires-clause-limit
made_net-requires-clause-limit c = sym c.in_ok-limit.ensures ∙ c.in-None.is

pub returns-in-Some-clause-err : goal.returns-in-Some-clause-err
returns-in-Some-clause-err c =
    flattened_is c.args.models.now ∙ checked_limit (flat_net c.args.models.now) c.in-Some.which (sym c.in_ok-limit.ensures ∙ c.in-Some.is)
