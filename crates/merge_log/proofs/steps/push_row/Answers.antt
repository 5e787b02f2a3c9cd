use Rattle.std.proofs.Common.{◌∙◌}
use Rattle.std.proofs.lemmas.Result.{on_ok_weaker}
use Rattle.merge_log.proofs.Adding.{row_forth_linked, row_back_linked}
use Rattle.merge_log.proofs.steps.push_row.Goals as goal
use Rattle.merge_log.proofs.steps.push_row.Goals.{then-sign+in_ok-hints, else-sign+in_ok-hints-2}

pub row_hints-requires : goal.row_hints-requires
row_hints-requires c = record {
  width = c.requires.row.width;
  to_width = c.requires.other_row.width;
  pins = c.requires.row.pins_in;
  to_pins = c.requires.other_row.pins_in;
  few = c.requires.row.few;
  to_few = c.requires.other_row.few;
}

pub row_hints-requires-else-sign : goal.row_hints-requires-else-sign
row_hints-requires-else-sign c = record {
  width = c.requires.other_row.width;
  to_width = c.requires.row.width;
  pins = c.requires.other_row.pins_in;
  to_pins = c.requires.row.pins_in;
  few = c.requires.other_row.few;
  to_few = c.requires.row.few;
}

pub returns : goal.returns
returns c =
    let pair = c.args.pair.now in
    let row = c.requires.row in
    let other = c.requires.other_row in
    elim c.if-sign.branch [
      | then-sign+in_ok-hints w ↦
          on_ok_weaker c.push_step.result
          (row_forth_linked c.args.goal.now c.args.log.now c.push_step.new.log c.requires.derivation c.args.merged.now c.requires.merged pair.marks.now c.args.sign w.if-sign.true pair.own.place.row
          pair.other.place.row pair.own.place.clause pair.other.place.clause pair.own.pins.now pair.other.pins.now c.if-sign.hints c.in_ok-chain.chain c.in_ok-link.field-0 row.width other.width
          c.requires.same row.clauses other.clauses row.row other.row c.in_ok-chain.ensures (w.hints-is ∙ w.in_ok-hints.ensures) c.push_step.ensures.few c.in_ok-link.ensures)
          c.push_step.ensures.pushed
      | else-sign+in_ok-hints-2 w ↦
          on_ok_weaker c.push_step.result
          (row_back_linked c.args.goal.now c.args.log.now c.push_step.new.log c.requires.derivation c.args.merged.now c.requires.merged pair.marks.now c.args.sign w.if-sign.false pair.own.place.row
          pair.other.place.row pair.own.place.clause pair.other.place.clause pair.own.pins.now pair.other.pins.now c.if-sign.hints c.in_ok-chain.chain c.in_ok-link.field-0 row.width other.width
          c.requires.same row.clauses other.clauses row.row other.row c.in_ok-chain.ensures (w.hints-is ∙ w.in_ok-hints-2.ensures) c.push_step.ensures.few c.in_ok-link.ensures)
          c.push_step.ensures.pushed
    ]
