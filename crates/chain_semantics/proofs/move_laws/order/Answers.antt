use Rattle.chain_semantics.proofs.MoveOrder.{moves_in_order, moves_once, moves_only}
use Rattle.chain_semantics.proofs.move_laws.order.Goals as goal

pub returns : goal.returns
returns c = record { in_order = moves_in_order; once = moves_once; only = moves_only }
