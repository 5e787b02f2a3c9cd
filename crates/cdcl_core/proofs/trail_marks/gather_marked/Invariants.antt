use Rattle.std.proofs.Common.{◌≡◌, ◌+◌, ◌≤◌, vec_len, vec_capacity}
use Rattle.cdcl_core.proofs.trail_marks.gather_marked.Given as goal

abbrev pub invariant-loop-place : goal.invariant-loop-place
invariant-loop-place l = record {
  few : vec_len l.gathered ≤ vec_len l.fn.gathered + l.place-index;
  room : vec_capacity l.gathered ≡ vec_capacity l.fn.gathered;
}
