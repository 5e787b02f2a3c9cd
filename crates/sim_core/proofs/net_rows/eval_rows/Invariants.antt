use Rattle.std.proofs.Common.{◌≡◌, List, Bool, [], length, get_or, false}
use Rattle.semantics.specs.Net.{input_count}
use Rattle.semantics.specs.Value.{value_of}
use Rattle.net_core.proofs.InOrder.{HoldsBefore}
use Rattle.lane_bits.specs.Rows.{word_count}
use Rattle.sim_core.specs.NetRows.{AreWide, HaveRows, FitsRoom}
use Rattle.sim_core.proofs.NetValues.{IsSignalRow}
use Rattle.sim_core.proofs.net_rows.eval_rows.Given as goal

abbrev pub invariant-loop-i : goal.invariant-loop-i
invariant-loop-i l = record {
  room : FitsRoom l.count l.room;
  wide : AreWide (word_count l.count) l.rows;
  rows : (vectors : List (List Bool)) → length vectors ≡ l.count → HaveRows vectors (λ x s. get_or x s false) (input_count l.net) l.initial.rows
      → HoldsBefore (IsSignalRow vectors (value_of (input_count l.net) l.net.tables)) [] (input_count l.net) l.i-items l.i-index l.rows;
}
