use Rattle.std.proofs.Common.{reverse, ◌+◌, ◌≤◌, vec_len, vec_capacity}
use Rattle.cdcl_core.specs.Explained.{IsExplained}
use Rattle.cdcl_core.specs.Analysis.{IsShortened}
use Rattle.cdcl_core.proofs.analysis.resolve_base.Given as goal

abbrev pub invariant-down : goal.invariant-down
invariant-down l = record {
  low : l.top ≤ l.first;
  shortened : IsShortened l.fn.marks l.marks l.first;
  explained : IsExplained l.clauses.list l.trail.literals l.marks (reverse l.hints.items);
  room : vec_len l.hints + l.top ≤ vec_capacity l.hints;
}

abbrev pub decreases-down : goal.decreases-down
decreases-down l = l.top
