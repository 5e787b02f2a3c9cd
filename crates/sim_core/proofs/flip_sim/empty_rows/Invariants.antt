use Rattle.std.proofs.Common.{◌≡◌, length}
use Rattle.sim_core.specs.NetRows.{AreWide}
use Rattle.sim_core.proofs.flip_sim.empty_rows.Given as goal

abbrev pub invariant-loop-row : goal.invariant-loop-row
invariant-loop-row l = record { count : length l.list.items ≡ l._row; wide : AreWide l.words l.list.items }
