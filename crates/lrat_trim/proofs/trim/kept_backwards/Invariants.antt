use Rattle.std.proofs.Common.{◌≤◌, drop, map}
use Rattle.trim_semantics.specs.Trimming.{kept_steps}
use Rattle.lrat_trim.specs.Backwards.{is_in}
use Rattle.lrat_trim.proofs.SoFar.{IsSoFar}
use Rattle.lrat_trim.proofs.trim.kept_backwards.Given as goal

abbrev pub invariant-loop-place : goal.invariant-loop-place
invariant-loop-place l = record {
  within : l.place ≤ l.root;
  so_far : IsSoFar (map (λ s. s.id) (kept_steps l.items)) (kept_steps (drop l.place l.items)) (is_in l.named) l.kept.items;
}

abbrev pub decreases-loop-place : goal.decreases-loop-place
decreases-loop-place l = l.place
