use Rattle.std.proofs.Common.{subst, All}
use Rattle.std.proofs.lemmas.List.{take_all}
use Rattle.std.proofs.lemmas.List.Elements.{All-more}
use Rattle.semantics.specs.Net.{IsTable}
use Rattle.net_core.proofs.net.see_tables.Goals as goal

pub loop-table-preserved : goal.loop-table-preserved
loop-table-preserved c =
    All-more IsTable c.args.tables.now c.loop-table.table-index c.table-item.result c.loop-table-test.true c.loop-table.invariant
    (subst IsTable c.table-item.is c.name.ensures.formed)

pub returns : goal.returns
returns c = subst (All IsTable) (take_all c.loop-table.table-index c.args.tables.now c.loop-table-test.false) c.loop-table.invariant
