use Rattle.std.proofs.Common.{◌≡◌, ◌++◌, take}
use Rattle.cdcl_core.proofs.clause.push_all.Given as goal

abbrev pub invariant-loop-lits : goal.invariant-loop-lits
invariant-loop-lits l = l.clauses.list ≡ l.initial.clauses.list ++ take l.lits-index l.more
