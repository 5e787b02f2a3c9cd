use Rattle.std.proofs.Common.{ℕ, ◌-◌, ◌+◌, ◌∙◌, List, [], ◌∷◌, ◌++◌, length, get_or, false, ap, arith}
use Rattle.semantics.specs.Net.{row_literals}
use Rattle.semantics.specs.Value.{Assignment}
use Rattle.case_tree.specs.Cases.{row_hint, asked_by_failing}
use Rattle.case_tree.proofs.Steps.{failing_last, failing_asks, rows_last, rows_within}
use Rattle.case_tree.proofs.hints.push_failing.Goals as goal

pub overflow_sub-id-in-loop-left : goal.overflow_sub-id-in-loop-left
overflow_sub-id-in-loop-left c =
    let count = c.row_literals.ensures ∙ ap row_literals c.as_slice-marks.ensures in
    omega (
      arith,
      count,
      c.requires.ids,
      c.loop-left.invariant.ids,
      rows_last c.args.rows.now c.loop-left.left c.index-rows-left.result c.loop-left-test.true c.loop-left.invariant.within c.index-rows-left.is,
      rows_within c.args.rows.now (c.loop-left.left - 1),
    )

pub loop-left-preserved : goal.loop-left-preserved
loop-left-preserved c =
    let v : Assignment = λ s. get_or c.args.values.now s false in
    let pins : List ℕ = c.args.pins.now in
    let row = c.index-rows-left.result in
    let next : ℕ = c.loop-left.id - (c.row_literals.result + 1) in
    let count = c.row_literals.ensures ∙ ap row_literals c.as_slice-marks.ensures in
    let last = rows_last c.args.rows.now c.loop-left.left row c.loop-left-test.true c.loop-left.invariant.within c.index-rows-left.is in
    let low = rows_within c.args.rows.now (c.loop-left.left - 1) in
    let pushed = c.in_ok-push-2.ensures.items ∙ ap (λ h. c.loop-left.hints.items ++ h ∷ []) (c.row_hint.ensures ∙ ap (λ r. row_hint next r pins v) c.as_slice-marks.ensures) in
    let asked = c.ask_failing.ensures ∙ ap (λ r. asked_by_failing r pins v c.loop-left.needed) c.as_slice-marks.ensures in
    record {
      within = omega (arith, c.loop-left.invariant.within);
      pushed =
          failing_last next c.loop-left.id (c.args.last - length c.args.rows.now) pins c.args.rows.now v c.loop-left.left row c.loop-left.hints.items c.push-in-loop-left.new.self.items
          c.args.hints.now.items
          c.loop-left-test.true c.loop-left.invariant.within c.index-rows-left.is (omega (arith, count, c.requires.ids, c.loop-left.invariant.ids, last, low)) pushed c.loop-left.invariant.pushed;
      asked =
          failing_asks pins c.args.rows.now v c.loop-left.left row c.loop-left.needed c.ask_failing.new.needed c.args.needed.now
          c.loop-left-test.true c.loop-left.invariant.within c.index-rows-left.is asked c.loop-left.invariant.asked;
      ids = omega (arith, count, c.requires.ids, c.loop-left.invariant.ids, last, low);
    }
