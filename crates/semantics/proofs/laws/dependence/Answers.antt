use Rattle.semantics.proofs.Depends.{no_cycle, to_replaced, from_replaced}
use Rattle.semantics.proofs.laws.dependence.Goals as goal

pub returns : goal.returns
returns c = record { no_cycle = no_cycle; to_replaced = to_replaced; from_replaced = from_replaced }
