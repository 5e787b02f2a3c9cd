use Rattle.std.proofs.Common.{subst}
use Rattle.semantics.specs.Net.{NetValue}
use Rattle.net_core.specs.Refused.{IsRefusalOf}
use Rattle.hier_flat.proofs.Checked.{checked_at, small_at}
use Rattle.hier_flat.proofs.NetMade.{cycle_tells}
use Rattle.hier_flat.proofs.flat_net.acyclic_net.Goals as goal

pub returns-in-Ok-clause-ok : goal.returns-in-Ok-clause-ok
returns-in-Ok-clause-ok c =
    let N : NetValue = record { model = c.args.model; inputs = c.args.inputs; tables = c.args.tables; outputs = c.args.outputs } in
    checked_at N c.in-Ok.net c.in-Ok.ensures.ok c.requires.limit c.see_sound.ensures.sound

pub returns-in-Ok-clause-small : goal.returns-in-Ok-clause-small
returns-in-Ok-clause-small c =
    let N : NetValue = record { model = c.args.model; inputs = c.args.inputs; tables = c.args.tables; outputs = c.args.outputs } in
    small_at N c.in-Ok.net c.in-Ok.ensures.ok c.requires.limit

pub returns-in-Err-Cycle-clause-err : goal.returns-in-Err-Cycle-clause-err
returns-in-Err-Cycle-clause-err c =
    let N : NetValue = record { model = c.args.model; inputs = c.args.inputs; tables = c.args.tables; outputs = c.args.outputs } in
    cycle_tells N c.in-Err-Cycle.signal c.in_ok-names.names c.cycle_at.result c.requires.limit
    (subst (IsRefusalOf N) c.in-Err-Cycle.field-0-is c.in-Err-Cycle.ensures.refused) c.in_ok-names.ensures c.cycle_at.ensures
