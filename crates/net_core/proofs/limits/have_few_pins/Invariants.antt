use Rattle.std.proofs.Common.{◌≡◌, ◌+◌, length, take, sum_by}
use Rattle.semantics.specs.declared.limits.TheConstants.{MOST_PINS}
use Rattle.net_core.proofs.limits.have_few_pins.Given as goal

abbrev pub invariant-loop-table : goal.invariant-loop-table
invariant-loop-table l = l.left + sum_by (λ t. length t.pins) (take l.table-index l.tables) ≡ MOST_PINS
