use Rattle.std.proofs.Common.{◌≡◌, ℕ, ◌*◌, ◌<◌, ◌&&◌, length, drop}
use Rattle.semantics.specs.Value.{row_matches}
use Rattle.lane_bits.specs.Rows.{row_bit}
use Rattle.sim_core.specs.NetRows.{values_of}
use Rattle.sim_core.proofs.covers.set_cube.Given as goal

abbrev pub invariant-loop-i : goal.invariant-loop-i
invariant-loop-i l = record {
  same : length l.cube ≡ length l.fn.cube;
  bits : (p : ℕ) → p < 64 * length l.fn.cube
      → (row_bit l.cube p && row_matches (drop l.i l.marks) (drop l.i l.pins) (values_of l.rows p)) ≡ row_matches l.marks l.pins (values_of l.rows p);
}
