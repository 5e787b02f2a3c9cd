use Rattle.std.proofs.Common.{◌<◌, length, sym, subst, arith}
use Rattle.semantics.specs.Net.{TableValue}
use Rattle.chain_semantics.specs.declared.moves.Move.TheVariants.{Pair}
use Rattle.chain_semantics.specs.Moves.{row_at}
use Rattle.chain_semantics.specs.MoveLaws.{IsMoveOf}
use Rattle.chain_semantics.proofs.MoveMembers.{move_is}
use Rattle.chain_semantics.proofs.MovedNets.{literal_within, moved-pins}
use Rattle.care_masks.proofs.moved_values.moved_word.Goals as goal

pub table-requires : goal.table-requires
table-requires c = (subst (IsMoveOf c.args.net.now) c.in-DropRow.is (move_is c.args.net.now c.see_sound.ensures.sound.acyclic c.args.a_move c.requires.offered)).0

pub without_row-requires-clause-within : goal.without_row-requires-clause-within
without_row-requires-clause-within c =
    let is = subst (IsMoveOf c.args.net.now) c.in-DropRow.is (move_is c.args.net.now c.see_sound.ensures.sound.acyclic c.args.a_move c.requires.offered) in
    subst (λ (t : TableValue). c.in-DropRow.row < length t.rows) (sym c.table.ensures.value) is.2

pub table-requires-in-DropLiteral : goal.table-requires-in-DropLiteral
table-requires-in-DropLiteral c =
    (subst (IsMoveOf c.args.net.now) c.in-DropLiteral.is (move_is c.args.net.now c.see_sound.ensures.sound.acyclic c.args.a_move c.requires.offered)).0

pub without_literal-requires-clause-row : goal.without_literal-requires-clause-row
without_literal-requires-clause-row c =
    let is = subst (IsMoveOf c.args.net.now) c.in-DropLiteral.is (move_is c.args.net.now c.see_sound.ensures.sound.acyclic c.args.a_move c.requires.offered) in
    subst (λ (t : TableValue). c.in-DropLiteral.row < length t.rows) (sym c.table-in-DropLiteral.ensures.value) is.1

pub without_literal-requires-clause-pin : goal.without_literal-requires-clause-pin
without_literal-requires-clause-pin c =
    let is = subst (IsMoveOf c.args.net.now) c.in-DropLiteral.is (move_is c.args.net.now c.see_sound.ensures.sound.acyclic c.args.a_move c.requires.offered) in
    subst (λ (t : TableValue). c.in-DropLiteral.pin < length (row_at t.rows c.in-DropLiteral.row)) (sym c.table-in-DropLiteral.ensures.value)
    (literal_within (row_at _ c.in-DropLiteral.row) c.in-DropLiteral.pin is.2)

pub bounds-words-s : goal.bounds-words-s
bounds-words-s c =
    let is = subst (IsMoveOf c.args.net.now) c.in-Signal.is (move_is c.args.net.now c.see_sound.ensures.sound.acyclic c.args.a_move c.requires.offered) in
    omega (arith, is.2, c.requires.room)

pub bounds-words-s-in-Pair : goal.bounds-words-s-in-Pair
bounds-words-s-in-Pair c =
    let is = subst (IsMoveOf c.args.net.now) c.in-Pair.is (move_is c.args.net.now c.see_sound.ensures.sound.acyclic c.args.a_move c.requires.offered) in
    let pins = moved-pins c.args.net.now (Pair c.in-Pair.t c.in-Pair.s c.in-Pair.flip_s c.in-Pair.u c.in-Pair.flip_u c.in-Pair.flip) c.see_sound.ensures.sound is in
    omega (arith, pins 0 0 (omega arith), c.requires.room)

pub bounds-words-u : goal.bounds-words-u
bounds-words-u c =
    let is = subst (IsMoveOf c.args.net.now) c.in-Pair.is (move_is c.args.net.now c.see_sound.ensures.sound.acyclic c.args.a_move c.requires.offered) in
    let pins = moved-pins c.args.net.now (Pair c.in-Pair.t c.in-Pair.s c.in-Pair.flip_s c.in-Pair.u c.in-Pair.flip_u c.in-Pair.flip) c.see_sound.ensures.sound is in
    omega (arith, pins 1 0 (omega arith), c.requires.room)
