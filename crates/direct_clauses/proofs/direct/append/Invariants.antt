use Rattle.std.proofs.Common.{◌≡◌, take, length}
use Rattle.direct_clauses.proofs.direct.append.Given as goal

abbrev pub invariant-loop-item : goal.invariant-loop-item
invariant-loop-item l = take (length l.fn.log) l.log ≡ l.fn.log
