use Rattle.cdcl_core.proofs.Nested.{inner_same}
use Rattle.cdcl_core.proofs.watches.make_room.Goals as goal

pub returns-clause-items : goal.returns-clause-items
returns-clause-items c = inner_same c.args.lists.now.items (λ v. v.items) c.args.at c.index_mut.result.now c.reserve.new.self c.index_mut.ensures.value c.reserve.ensures.items
