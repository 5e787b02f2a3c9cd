use Rattle.std.proofs.Common.{◌∙◌, true, false, sym}
use Rattle.case_tree.proofs.Steps.{row_asks}
use Rattle.case_tree.proofs.hints.ask_row.Goals as goal
use Rattle.case_tree.proofs.hints.ask_row.Goals.{then-is_literal, else-is_literal}

pub loop-i-preserved : goal.loop-i-preserved
loop-i-preserved c =
    elim c.if-is_literal.branch [
      | then-is_literal w ↦ row_asks c.args.marks.now c.args.pins.now c.loop-i.i _ true c.loop-i.needed c.if-is_literal.needed _ c.loop-i-test.true c.requires.widths
          (sym w.if-is_literal.true ∙ c.is_literal.ensures) w.needed-is c.loop-i.invariant
      | else-is_literal w ↦ row_asks c.args.marks.now c.args.pins.now c.loop-i.i _ false c.loop-i.needed c.if-is_literal.needed _ c.loop-i-test.true c.requires.widths
          (sym w.if-is_literal.false ∙ c.is_literal.ensures) w.needed-is c.loop-i.invariant
    ]
