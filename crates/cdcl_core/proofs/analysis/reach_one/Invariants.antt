use Rattle.std.proofs.Common.{reverse, ◌+◌, ◌≤◌, vec_len, vec_capacity}
use Rattle.cdcl_core.specs.Explained.{IsExplained}
use Rattle.cdcl_core.proofs.Loops.{IsReaching}
use Rattle.cdcl_core.proofs.analysis.reach_one.Given as goal

abbrev pub invariant-down : goal.invariant-down
invariant-down l = record {
  reaching : IsReaching l.trail.literals l.fn.marks l.marks l.start l.top;
  explained : IsExplained l.clauses.list l.trail.literals l.marks (reverse l.hints.items);
  room : vec_len l.hints + l.top ≤ vec_capacity l.hints;
}

abbrev pub decreases-down : goal.decreases-down
decreases-down l = l.top
