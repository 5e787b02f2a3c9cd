use Rattle.std.proofs.Common.{◌≡◌, ◌+◌, drop}
use Rattle.proof_semantics.specs.Logs.{held_from, held_of}
use Rattle.lrat_check.proofs.checker.hold_all.Given as goal

-- with the clauses that are left, all are held
abbrev pub invariant-loop-i : goal.invariant-loop-i
invariant-loop-i l = (held_from l.held.held (l.i + 1) (drop l.i l.clauses) ≡ held_of l.clauses) × (l.held.last ≡ l.i)
