use Rattle.std.proofs.Common.{◌∙◌}
use Rattle.net_moves.proofs.Making.{taken_back, back-acyclic}
use Rattle.net_moves.proofs.apply.take_back.Goals as goal

pub exchange_table-requires-clause-acyclic : goal.exchange_table-requires-clause-acyclic
exchange_table-requires-clause-acyclic c = back-acyclic c.requires.0 c.args.net.now c.args.a_move c.args.table c.table_of.result c.requires.1 c.table_of.ensures

pub returns-clause-ok : goal.returns-clause-ok
returns-clause-ok c = λ before made. c.in_ok-exchange_table.ensures.ok ∙ taken_back before c.args.net.now c.args.a_move c.args.table c.table_of.result made c.table_of.ensures
