use Rattle.std.proofs.Common.{◌≡◌, ◌≤◌, vec_len, vec_capacity}
use Rattle.cdcl_core.proofs.Loops.{IsClauseSoFar}
use Rattle.cdcl_core.proofs.trail_marks.Marks.gather_clause.Given as goal

abbrev pub invariant-loop-place : goal.invariant-loop-place
invariant-loop-place l = record {
  so_far : IsClauseSoFar l.trail.literals l.self-inside.on.items l.self-inside.touched.items l.clause.items l.place-index;
  few : vec_len l.clause ≤ l.place-index;
  room : vec_capacity l.clause ≡ vec_capacity l.fn.clause;
}
