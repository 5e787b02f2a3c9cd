use Rattle.std.proofs.Common.{◌≡◌, ap, sym, subst, ◌∙◌, arith}
use Rattle.semantics.specs.Net.{TableValue, table_at}
use Rattle.chain_semantics.specs.Moves.{table_of, moved_table}
use Rattle.chain_semantics.specs.MoveLaws.{IsMoveOf}
use Rattle.chain_semantics.proofs.MoveMembers.{move_is}
use Rattle.chain_semantics.proofs.MovedNets.{move-within}
use Rattle.net_moves.specs.Fitting.{Fits}
use Rattle.net_moves.proofs.Making.{Fits-move, made-acyclic}
use Rattle.net_moves.proofs.apply.make.Goals as goal

pub table-requires : goal.table-requires
table-requires c =
    let is : IsMoveOf c.args.net.now c.args.a_move = move_is c.args.net.now c.see_sound.ensures.sound.acyclic c.args.a_move c.requires in
    omega (arith, c.table_of-t.ensures, move-within c.args.net.now c.args.a_move is)

pub moved_table-requires : goal.moved_table-requires
moved_table-requires c =
    let is : IsMoveOf c.args.net.now c.args.a_move = move_is c.args.net.now c.see_sound.ensures.sound.acyclic c.args.a_move c.requires in
    let same : c.table.result.now ≡ table_at c.args.net.now.tables (table_of c.args.a_move) = c.table.ensures.value ∙ ap (table_at c.args.net.now.tables) c.table_of-t.ensures in
    subst (λ (t : TableValue). Fits t c.args.a_move) (sym same) (Fits-move c.args.net.now c.args.a_move is)

pub exchange_table-requires-clause-acyclic : goal.exchange_table-requires-clause-acyclic
exchange_table-requires-clause-acyclic c =
    let is : IsMoveOf c.args.net.now c.args.a_move = move_is c.args.net.now c.see_sound.ensures.sound.acyclic c.args.a_move c.requires in
    made-acyclic c.args.net.now c.args.a_move c.table_of-t.result c.in_ok-table.table c.see_sound.ensures.sound is c.table_of-t.ensures
    (c.in_ok-table.ensures ∙ ap (λ (t : TableValue). moved_table t c.args.a_move) c.table.ensures.value)
