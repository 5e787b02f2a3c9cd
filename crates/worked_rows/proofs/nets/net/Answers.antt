use Rattle.blif_semantics.proofs.ReadNet.{read_small}
use Rattle.worked_rows.proofs.nets.net.Goals as goal

pub returns-in-Ok : goal.returns-in-Ok
returns-in-Ok c = read_small _ _ _ c.in-Ok.ensures.ok
