use Rattle.std.proofs.Common.{◌≡◌, ℕ, ◌+◌, ◌∙◌, length, get_or, false, ap, sym, arith}
use Rattle.std.proofs.lemmas.Result.{on_ok_weaker}
use Rattle.semantics.specs.Net.{input_count}
use Rattle.semantics.specs.Value.{Assignment}
use Rattle.case_tree.proofs.Steps.{length-first_ids, first_ids-few, last_id, match_pushed, failing_pushed}
use Rattle.case_tree.proofs.hints.push_table.Goals as goal

pub bounds-firsts-i : goal.bounds-firsts-i
bounds-firsts-i c = omega (arith, c.requires.table, ap length c.requires.firsts, length-first_ids 1 c.args.net.now.tables)

pub overflow_sub-last : goal.overflow_sub-last
overflow_sub-last c =
    omega (
      arith,
      last_id c.args.net.now.tables c.args.firsts.now c.args.i c.table-table.result.now c.as_slice-rows.result.now c.requires.firsts c.requires.table c.table-table.ensures.value
          (c.as_slice-rows.ensures ∙ c.rows.ensures.value),
    )

pub overflow_sub-ids : goal.overflow_sub-ids
overflow_sub-ids c =
    omega (
      arith,
      last_id c.args.net.now.tables c.args.firsts.now c.args.i c.table-table.result.now c.as_slice-rows.result.now c.requires.firsts c.requires.table c.table-table.ensures.value
          (c.as_slice-rows.ensures ∙ c.rows.ensures.value),
    )

pub bounds-firsts-i-then-has_match : goal.bounds-firsts-i-then-has_match
bounds-firsts-i-then-has_match c = omega (arith, c.requires.table, ap length c.requires.firsts, length-first_ids 1 c.args.net.now.tables)

pub push_match-requires-clause-ids : goal.push_match-requires-clause-ids
push_match-requires-clause-ids c =
    omega (
      arith,
      last_id c.args.net.now.tables c.args.firsts.now c.args.i c.table-table.result.now c.as_slice-rows.result.now c.requires.firsts c.requires.table c.table-table.ensures.value
          (c.as_slice-rows.ensures ∙ c.rows.ensures.value),
      first_ids-few c.args.net.now.tables c.args.firsts.now c.args.i c.requires.firsts c.requires.table c.requires.ids,
    )

pub push_match-requires-clause-implying : goal.push_match-requires-clause-implying
push_match-requires-clause-implying c =
    omega (
      arith,
      last_id c.args.net.now.tables c.args.firsts.now c.args.i c.table-table.result.now c.as_slice-rows.result.now c.requires.firsts c.requires.table c.table-table.ensures.value
          (c.as_slice-rows.ensures ∙ c.rows.ensures.value),
      first_ids-few c.args.net.now.tables c.args.firsts.now c.args.i c.requires.firsts c.requires.table c.requires.ids,
    )

pub push_failing-requires-clause-few : goal.push_failing-requires-clause-few
push_failing-requires-clause-few c = omega (arith, first_ids-few c.args.net.now.tables c.args.firsts.now c.args.i c.requires.firsts c.requires.table c.requires.ids)

pub push_failing-requires-clause-ids : goal.push_failing-requires-clause-ids
push_failing-requires-clause-ids c =
    omega (
      arith,
      last_id c.args.net.now.tables c.args.firsts.now c.args.i c.table-table.result.now c.as_slice-rows.result.now c.requires.firsts c.requires.table c.table-table.ensures.value
          (c.as_slice-rows.ensures ∙ c.rows.ensures.value),
    )

pub returns-then-has_match-clause-hints : goal.returns-then-has_match-clause-hints
returns-then-has_match-clause-hints c =
    let v : Assignment = λ s. get_or c.args.values.now s false in
    let place : ℕ = c.inputs.result + c.args.i in
    let here : place ≡ input_count c.args.net.now + c.args.i = omega (arith, c.inputs.ensures.value) in
    on_ok_weaker c.push_match.result
    (λ pushed. match_pushed c.args.net.now.tables c.args.firsts.now (input_count c.args.net.now) c.args.i place c.args.needed.now c.table-table.result.now c.plane.result c.as_slice-pins.result.now
    c.as_slice-rows.result.now v c.args.hints.now.items c.push_match.new.hints.items c.requires.firsts c.requires.table here c.if-not-needed-place.false c.table-table.ensures.value
    c.plane.ensures.value
    (c.as_slice-pins.ensures ∙ c.pins.ensures.value) (c.as_slice-rows.ensures ∙ c.rows.ensures.value) (sym c.has_match.ensures ∙ c.if-has_match.true) pushed)
    c.push_match.ensures.hints

pub returns-clause-hints : goal.returns-clause-hints
returns-clause-hints c =
    let v : Assignment = λ s. get_or c.args.values.now s false in
    let place : ℕ = c.inputs.result + c.args.i in
    let here : place ≡ input_count c.args.net.now + c.args.i = omega (arith, c.inputs.ensures.value) in
    on_ok_weaker c.push_failing.result
    (λ pushed. failing_pushed c.args.net.now.tables c.args.firsts.now (input_count c.args.net.now) c.args.i place c.args.needed.now c.table-table.result.now c.plane.result c.as_slice-pins.result.now
    c.as_slice-rows.result.now v c.args.hints.now.items c.push_failing.new.hints.items c.requires.firsts c.requires.table here c.if-not-needed-place.false c.table-table.ensures.value
    c.plane.ensures.value
    (c.as_slice-pins.ensures ∙ c.pins.ensures.value) (c.as_slice-rows.ensures ∙ c.rows.ensures.value) (sym c.has_match.ensures ∙ c.if-has_match.false) pushed)
    c.push_failing.ensures.hints
