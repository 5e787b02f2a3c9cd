use Rattle.std.proofs.Common.{◌≡◌, ℕ, ◌*◌, ◌<◌, ◌||◌, length, drop}
use Rattle.std.specs.List.{list_any}
use Rattle.semantics.specs.Value.{row_matches}
use Rattle.lane_bits.specs.Rows.{row_bit}
use Rattle.sim_core.specs.NetRows.{values_of}
use Rattle.sim_core.proofs.covers.set_cover.Given as goal

abbrev pub invariant-loop-row : goal.invariant-loop-row
invariant-loop-row l = record {
  cube : length l.cube ≡ length l.fn.cube;
  same : length l.cover ≡ length l.fn.cover;
  bits : (p : ℕ) → p < 64 * length l.fn.cover
      → (row_bit l.cover p || list_any (λ marks. row_matches marks l.pins (values_of l.rows p)) (drop l.row-index l.cubes))
      ≡ list_any (λ marks. row_matches marks l.pins (values_of l.rows p)) l.cubes;
}
