use Rattle.std.proofs.Common.{◌≡◌, ℕ, ◌<◌, ◌≤◌}
use Rattle.sim_core.specs.NetRows.{row_at}
use Rattle.sim_core.proofs.net_rows.restore_rows.Given as goal

abbrev pub invariant-loop-s : goal.invariant-loop-s
invariant-loop-s l = record {
  restored : (j : ℕ) → j < l.s → row_at l.flipped j ≡ row_at l.rows j;
  rest : (j : ℕ) → l.s ≤ j → row_at l.flipped j ≡ row_at l.initial.flipped j;
}
