use Rattle.std.proofs.Common.{◌≡◌, ℕ, ◌<◌, List, Bool, length, get_or, false}
use Rattle.semantics.specs.Net.{input_count, signal_count}
use Rattle.semantics.specs.Value.{value_of}
use Rattle.lane_bits.specs.Rows.{word_count}
use Rattle.sim_core.specs.NetRows.{row_at, AreWide, HaveRows, FitsRoom}
use Rattle.sim_core.proofs.NetValues.{IsFlipping}
use Rattle.sim_core.proofs.net_rows.flip_rows.Given as goal

abbrev pub invariant-loop-i : goal.invariant-loop-i
invariant-loop-i l = record {
  room : FitsRoom l.count l.room;
  wide : AreWide (word_count l.count) l.rows;
  others : (s : ℕ) → s < signal_count l.net → get_or l.marks s false ≡ false → row_at l.rows s ≡ row_at l.fn.rows s;
  flipped : (vectors : List (List Bool)) → length vectors ≡ l.count → HaveRows vectors (value_of (input_count l.net) l.net.tables) (signal_count l.net) l.fn.rows
      → IsFlipping l.net vectors l.i-items l.t l.fn.rows l.i-index l.rows;
}
