use Rattle.std.proofs.Common.{◌≡◌, ℕ, ◌<◌, ◌≤◌, false, length, reverse, ◌+◌, vec_len, vec_capacity}
use Rattle.cdcl_core.specs.Explained.{IsExplained}
use Rattle.cdcl_core.specs.Analysis.{mark_at}
use Rattle.cdcl_core.proofs.refutation.resolve_all.Given as goal

abbrev pub invariant-down : goal.invariant-down
invariant-down l = record {
  same_length : length l.marks ≡ length l.fn.marks;
  within : l.top ≤ length l.trail.literals;
  none : (p : ℕ) → l.top ≤ p → p < length l.trail.literals → mark_at l.marks p ≡ false;
  explained : IsExplained l.clauses.list l.trail.literals l.marks (reverse l.hints.items);
  room : vec_len l.hints + l.top ≤ vec_capacity l.hints;
}

abbrev pub decreases-down : goal.decreases-down
decreases-down l = l.top
