use Rattle.std.proofs.Common.{◌<◌, ◌^◌, sym, subst}
use Rattle.semantics.specs.Net.{TableValue, table_literals}
use Rattle.net_moves.proofs.Making.{few_literals}
use Rattle.net_moves.proofs.table_moves.TableMoves.start.Goals as goal

pub literals-literals-requires : goal.literals-literals-requires
literals-literals-requires c =
    subst (λ (t : TableValue). table_literals t < 2 ^ 63) (sym c.table-table.ensures.value)
    (few_literals c.args.net.now c.args.t c.table-table.ensures.built.sound c.requires.small c.requires.table)
