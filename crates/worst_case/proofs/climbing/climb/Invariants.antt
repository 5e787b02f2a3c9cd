use Rattle.worst_case.specs.Maximum.{IsAttained}
use Rattle.worst_case.proofs.climbing.climb.Given as goal

abbrev pub invariant-loop : goal.invariant-loop
invariant-loop l = IsAttained l.aim.metric l.nets l.best
