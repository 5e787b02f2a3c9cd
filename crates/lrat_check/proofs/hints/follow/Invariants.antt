use Rattle.std.proofs.Common.{◌≡◌, drop}
use Rattle.std.specs.FinMap.{get}
use Rattle.proof_semantics.specs.Logs.{hints_answer}
use Rattle.lrat_check.proofs.hints.follow.Given as goal

-- the hints that are left, from the set so far, answer as all hints do
abbrev pub invariant-loop-i : goal.invariant-loop-i
invariant-loop-i l = hints_answer (get l.held.held) l.set (drop l.i l.hints) ≡ hints_answer (get l.held.held) l.initial.set l.hints
