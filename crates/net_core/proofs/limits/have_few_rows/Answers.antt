use Rattle.std.proofs.Common.{length, sum_by, ap, sym, ◌∙◌, arith}
use Rattle.std.proofs.lemmas.Bool.{lt-leb}
use Rattle.std.proofs.lemmas.List.Sums.{sum_by_more_le}
use Rattle.semantics.specs.Net.{TableValue}
use Rattle.semantics.specs.declared.limits.TheConstants.{MOST_ROWS}
use Rattle.net_core.proofs.limits.have_few_rows.Goals as goal

pub returns-in_default : goal.returns-in_default
returns-in_default c =
    let more = sum_by_more_le (λ t. length t.rows) c.args.tables.now c.loop-table.table-index c.table-item.result c.loop-table-test.true in
    let read = ap (λ (t : TableValue). length t.rows) c.table-item.is in
    let count = c.len.ensures ∙ ap length c.rows.ensures.value in
    sym (lt-leb (sum_by (λ (t : TableValue). length t.rows) c.args.tables.now) MOST_ROWS (omega (arith, more, read, count, c.loop-table.invariant, c.in_default.ensures)))
