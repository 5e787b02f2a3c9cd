use Rattle.std.proofs.Common.{ℕ, ◌∙◌, List, [], ◌∷◌, ◌++◌, get_or, false, ap, sym, arith}
use Rattle.semantics.specs.Net.{row_literals}
use Rattle.semantics.specs.Value.{Assignment, row_matches}
use Rattle.case_tree.specs.Cases.{row_hint, asked_by_row}
use Rattle.case_tree.proofs.Steps.{match_ends, match_asked, match_continues, match_asks, rows_left}
use Rattle.case_tree.proofs.hints.push_match.Goals as goal

pub returns-then-row_matches-clause-hints : goal.returns-then-row_matches-clause-hints
returns-then-row_matches-clause-hints c =
    let v : Assignment = λ s. get_or c.args.values.now s false in
    let pins : List ℕ = c.args.pins.now in
    let match = sym (c.row_matches.ensures ∙ ap (λ r. row_matches r pins v) c.as_slice-marks.ensures) ∙ c.if-row_matches.true in
    let second = c.in_ok-push-2.ensures.items ∙ ap (λ h. c.push.new.self.items ++ h ∷ []) (c.row_hint.ensures ∙ ap (λ r. row_hint c.loop-row.id r pins v) c.as_slice-marks.ensures) in
    match_ends c.loop-row.id c.loop-row.implied pins c.args.rows.now v c.loop-row.row-index c.row-item.result c.loop-row.hints.items c.push.new.self.items c.push-then-row_matches.new.self.items _
    c.loop-row-test.true c.row-item.is match c.loop-row.invariant.pushed c.in_ok-push.ensures.items second

pub returns-then-row_matches-clause-asked : goal.returns-then-row_matches-clause-asked
returns-then-row_matches-clause-asked c =
    let v : Assignment = λ s. get_or c.args.values.now s false in
    let pins : List ℕ = c.args.pins.now in
    let match = sym (c.row_matches.ensures ∙ ap (λ r. row_matches r pins v) c.as_slice-marks.ensures) ∙ c.if-row_matches.true in
    match_asked pins c.args.rows.now v c.loop-row.row-index c.row-item.result c.loop-row.needed c.ask_row.new.needed _
    c.loop-row-test.true c.row-item.is match c.loop-row.invariant.asked (c.ask_row.ensures ∙ ap (λ r. asked_by_row r pins c.loop-row.needed) c.as_slice-marks.ensures)

pub loop-row-preserved : goal.loop-row-preserved
loop-row-preserved c =
    let v : Assignment = λ s. get_or c.args.values.now s false in
    let pins : List ℕ = c.args.pins.now in
    let fails = sym (c.row_matches.ensures ∙ ap (λ r. row_matches r pins v) c.as_slice-marks.ensures) ∙ c.if-row_matches.false in
    let count = c.row_literals.ensures ∙ ap row_literals c.as_slice-marks.ensures in
    record {
      pushed = rw count
          (match_continues c.loop-row.id c.loop-row.implied pins c.args.rows.now v c.loop-row.row-index c.row-item.result c.loop-row.hints.items _
          c.loop-row-test.true c.row-item.is fails c.loop-row.invariant.pushed);
      asked =
          match_asks pins c.args.rows.now v c.loop-row.row-index c.row-item.result c.loop-row.needed _ c.loop-row-test.true c.row-item.is fails c.loop-row.invariant.asked;
      ids = omega (arith, c.loop-row.invariant.ids, count, rows_left c.args.rows.now c.loop-row.row-index c.row-item.result c.loop-row-test.true c.row-item.is);
      implied = omega (arith, c.loop-row.invariant.implied);
    }
