use Rattle.std.proofs.Common.{◌≡◌, ◌+◌, ◌*◌, ◌-◌}
use Rattle.merge_log.specs.Chains.{table_chain}
use Rattle.merge_log.proofs.hints.table_hints.Given as goal

-- what the rows that are left make of the chain is what all rows make of the first one
abbrev pub invariant-loop-j : goal.invariant-loop-j
invariant-loop-j l =
    table_chain (l.rows.row + l.j) (l.equal.row + l.j) (l.rows.clause + l.j) (l.equal.clause + 2 * l.j) (l.count - l.j) l.chain
    ≡ table_chain l.rows.row l.equal.row l.rows.clause l.equal.clause l.count l.initial.chain
