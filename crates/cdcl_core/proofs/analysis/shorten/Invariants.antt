use Rattle.std.proofs.Common.{reverse, ◌+◌, ◌≤◌, vec_len, vec_capacity}
use Rattle.cdcl_core.specs.Explained.{IsExplained}
use Rattle.cdcl_core.specs.Analysis.{IsShortened}
use Rattle.cdcl_core.proofs.analysis.shorten.Given as goal

abbrev pub invariant-down : goal.invariant-down
invariant-down l = record {
  shortened : IsShortened l.fn.marks l.marks l.start;
  explained : IsExplained l.clauses.list l.trail.literals l.marks (reverse l.hints.items);
  low : l.first ≤ l.top;
  high : l.top ≤ l.start;
  room : vec_len l.hints + l.top ≤ vec_capacity l.hints;
}

abbrev pub decreases-down : goal.decreases-down
decreases-down l = l.rest
