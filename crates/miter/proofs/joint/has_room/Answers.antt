use Rattle.std.proofs.Common.{length, refl, ap, ◌∙◌, arith}
use Rattle.std.proofs.lemmas.List.Sums.{sum_by_more_le}
use Rattle.semantics.specs.Net.{TableValue, no_table}
use Rattle.miter.proofs.Small.{few_in_all}
use Rattle.miter.proofs.joint.has_room.Goals as goal

pub returns-then-rows-left-clause-value : goal.returns-then-rows-left-clause-value
returns-then-rows-left-clause-value c =
    let more = sum_by_more_le (λ t. length t.rows) c.args.net.now.tables c.loop-t.t no_table (omega arith) in
    let count = c.len-rows.ensures ∙ ap length c.rows.ensures.value ∙ ap (λ (t : TableValue). length t.rows) c.table.ensures.value in
    ((λ h. absurd cc), λ few. absurd (omega (arith, more, count, c.loop-t.invariant, c.if-rows-left.true, few)))

pub returns-then-rows-left-clause-small : goal.returns-then-rows-left-clause-small
returns-then-rows-left-clause-small c =
    let more = sum_by_more_le (λ t. length t.rows) c.args.net.now.tables c.loop-t.t no_table (omega arith) in
    let count = c.len-rows.ensures ∙ ap length c.rows.ensures.value ∙ ap (λ (t : TableValue). length t.rows) c.table.ensures.value in
    λ N M metric k exact approx is. absurd (omega (arith, more, count, c.loop-t.invariant, c.if-rows-left.true, few_in_all N M c.args.net.now metric k exact approx is))

pub returns-clause-small : goal.returns-clause-small
returns-clause-small c = λ N M metric k exact approx is. refl
