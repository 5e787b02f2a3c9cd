use Rattle.std.proofs.Common.{◌≡◌, ◌+◌, length, take, sum_by}
use Rattle.semantics.specs.declared.limits.TheConstants.{MOST_ROWS}
use Rattle.net_core.proofs.limits.have_few_rows.Given as goal

abbrev pub invariant-loop-table : goal.invariant-loop-table
invariant-loop-table l = l.left + sum_by (λ t. length t.rows) (take l.table-index l.tables) ≡ MOST_ROWS
