use Rattle.blif_semantics.proofs.ReadNet.{read_small}
use Rattle.conversions.proofs.making.circuit.Goals as goal

pub of_net-requires : goal.of_net-requires
of_net-requires c = read_small c.args.text.now 4194304 c.in-Ok.net c.in-Ok.ensures.ok
