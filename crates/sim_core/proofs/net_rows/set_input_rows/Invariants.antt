use Rattle.std.proofs.Common.{length, get_or, false}
use Rattle.lane_bits.specs.Rows.{word_count}
use Rattle.sim_core.specs.NetRows.{AreWide, HaveRows}
use Rattle.sim_core.proofs.net_rows.set_input_rows.Given as goal

abbrev pub invariant-loop-i : goal.invariant-loop-i
invariant-loop-i l = record {
  wide : AreWide (word_count (length l.patterns.vectors)) l.rows;
  rows : HaveRows l.patterns.vectors (λ x s. get_or x s false) l.i l.rows;
}
