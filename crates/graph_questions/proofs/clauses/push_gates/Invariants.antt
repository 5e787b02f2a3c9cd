use Rattle.graph_questions.specs.GraphClauses.{StayTrue, StayWithin}
use Rattle.graph_questions.proofs.clauses.push_gates.Given as goal

-- the clauses of the gates so far are true where the first ones are, and over the graph's variables
abbrev pub invariant-loop-i : goal.invariant-loop-i
invariant-loop-i l = record {
  true_at : StayTrue l.graph l.initial.clauses l.clauses;
  within : StayWithin l.graph l.initial.clauses l.clauses;
}
