use Rattle.std.proofs.Common.{◌≡◌, ◌↔◌, ◌+◌, ◌<◌, IsTrue, get_or, length, ap, sym, subst, ◌∙◌, remove, set, arith}
use Rattle.semantics.specs.declared.mark.Mark.TheVariants.{Dash}
use Rattle.semantics.specs.Net.{TableValue, input_count}
use Rattle.semantics.specs.Value.{table_value}
use Rattle.chain_semantics.specs.declared.moves.Move.TheVariants.{DropRow, DropLiteral}
use Rattle.chain_semantics.specs.Moves.{row_at}
use Rattle.chain_semantics.specs.Care.{Changes}
use Rattle.chain_semantics.specs.MoveLaws.{IsMoveOf}
use Rattle.chain_semantics.proofs.MoveMembers.{move_is}
use Rattle.chain_semantics.proofs.MovedNets.{literal_within}
use Rattle.lane_bits.specs.Rows.{turned}
use Rattle.lane_nets.specs.Words.{word_bit, values_at}
use Rattle.care_masks.specs.Overlaps.{rows_overlap}
use Rattle.care_masks.proofs.OverlapBits.{own_value, told_change}
use Rattle.care_masks.proofs.dropped.block_difference.Goals as goal

pub table-requires : goal.table-requires
table-requires c =
    let is = subst (IsMoveOf c.args.net.now) c.in-DropRow.is (move_is c.args.net.now c.inputs-inputs.ensures.built.sound.acyclic c.args.a_move c.requires.offered) in
    is.0

pub bounds-overlaps-t : goal.bounds-overlaps-t
bounds-overlaps-t c =
    let is = subst (IsMoveOf c.args.net.now) c.in-DropRow.is (move_is c.args.net.now c.inputs-inputs.ensures.built.sound.acyclic c.args.a_move c.requires.offered) in
    omega (arith, is.0, c.requires.overlaps_room)

pub lone_row_word-requires-clause-within : goal.lone_row_word-requires-clause-within
lone_row_word-requires-clause-within c =
    let is = subst (IsMoveOf c.args.net.now) c.in-DropRow.is (move_is c.args.net.now c.inputs-inputs.ensures.built.sound.acyclic c.args.a_move c.requires.offered) in
    subst (λ (t : TableValue). c.in-DropRow.row < length t.rows) (sym c.table.ensures.value) is.2

pub returns-in-DropRow-clause-bits : goal.returns-in-DropRow-clause-bits
returns-in-DropRow-clause-bits c =
    let is = subst (IsMoveOf c.args.net.now) c.in-DropRow.is (move_is c.args.net.now c.inputs-inputs.ensures.built.sound.acyclic c.args.a_move c.requires.offered) in
    let N = c.args.net.now in
    let words = c.args.words.now in
    λ overlaps b x low values.
    let over = subst (λ (table : TableValue). word_bit (get_or c.args.overlaps.now c.in-DropRow.t 0) b ≡ rows_overlap table (values_at words b)) (sym c.table.ensures.value)
    (overlaps.each c.in-DropRow.t b is.0 low) in
    subst (λ m. IsTrue (word_bit c.lone_row_word.result b) ↔ Changes N m x) (sym c.in-DropRow.is)
    (told_change N words b x c.inputs-inputs.ensures.built.sound values (DropRow c.in-DropRow.t c.in-DropRow.row) c.lone_row_word.result is
    (subst (λ (table : TableValue). word_bit c.lone_row_word.result b
    ≡ turned (table_value table (values_at words b)) (table_value (record table { rows = remove table.rows c.in-DropRow.row }) (values_at words b)))
    c.table.ensures.value (c.lone_row_word.ensures b low over)))

pub overflow_add-value : goal.overflow_add-value
overflow_add-value c =
    let is = subst (IsMoveOf c.args.net.now) c.in-DropLiteral.is (move_is c.args.net.now c.inputs-inputs.ensures.built.sound.acyclic c.args.a_move c.requires.offered) in
    omega (arith, is.0, c.inputs-inputs.ensures.value, c.inputs-inputs.ensures.built.few_signals)

pub bounds-words-inputs : goal.bounds-words-inputs
bounds-words-inputs c =
    let is = subst (IsMoveOf c.args.net.now) c.in-DropLiteral.is (move_is c.args.net.now c.inputs-inputs.ensures.built.sound.acyclic c.args.a_move c.requires.offered) in
    omega (arith, is.0, c.inputs-inputs.ensures.value, c.requires.room)

pub table-requires-in-DropLiteral : goal.table-requires-in-DropLiteral
table-requires-in-DropLiteral c =
    let is = subst (IsMoveOf c.args.net.now) c.in-DropLiteral.is (move_is c.args.net.now c.inputs-inputs.ensures.built.sound.acyclic c.args.a_move c.requires.offered) in
    is.0

pub missed_literal_word-requires-clause-row : goal.missed_literal_word-requires-clause-row
missed_literal_word-requires-clause-row c =
    let is = subst (IsMoveOf c.args.net.now) c.in-DropLiteral.is (move_is c.args.net.now c.inputs-inputs.ensures.built.sound.acyclic c.args.a_move c.requires.offered) in
    subst (λ (t : TableValue). c.in-DropLiteral.row < length t.rows) (sym c.table-in-DropLiteral.ensures.value) is.1

pub missed_literal_word-requires-clause-pin : goal.missed_literal_word-requires-clause-pin
missed_literal_word-requires-clause-pin c =
    let is = subst (IsMoveOf c.args.net.now) c.in-DropLiteral.is (move_is c.args.net.now c.inputs-inputs.ensures.built.sound.acyclic c.args.a_move c.requires.offered) in
    subst (λ (t : TableValue). c.in-DropLiteral.pin < length (row_at t.rows c.in-DropLiteral.row)) (sym c.table-in-DropLiteral.ensures.value)
    (literal_within (row_at _ c.in-DropLiteral.row) c.in-DropLiteral.pin is.2)

pub returns-in-DropLiteral-clause-bits : goal.returns-in-DropLiteral-clause-bits
returns-in-DropLiteral-clause-bits c =
    let is = subst (IsMoveOf c.args.net.now) c.in-DropLiteral.is (move_is c.args.net.now c.inputs-inputs.ensures.built.sound.acyclic c.args.a_move c.requires.offered) in
    let N = c.args.net.now in
    let words = c.args.words.now in
    let t = c.in-DropLiteral.t in
    let r = c.in-DropLiteral.row in
    let pin = c.in-DropLiteral.pin in
    let sound = c.inputs-inputs.ensures.built.sound in
    λ overlaps b x low values.
    let own = ap (λ n. word_bit (get_or words (n + t) 0) b) c.inputs-inputs.ensures.value ∙ values (input_count N + t) (omega (arith, is.0)) ∙ own_value N words b x sound values t is.0
    ∙ ap (λ (table : TableValue). table_value table (values_at words b)) (sym c.table-in-DropLiteral.ensures.value) in
    subst (λ m. IsTrue (word_bit c.missed_literal_word.result b) ↔ Changes N m x) (sym c.in-DropLiteral.is)
    (told_change N words b x sound values (DropLiteral t r pin) c.missed_literal_word.result is
    (subst (λ (table : TableValue). word_bit c.missed_literal_word.result b
    ≡ turned (table_value table (values_at words b)) (table_value (record table { rows = set table.rows r (set (row_at table.rows r) pin Dash) }) (values_at words b)))
    c.table-in-DropLiteral.ensures.value (c.missed_literal_word.ensures b low own)))
