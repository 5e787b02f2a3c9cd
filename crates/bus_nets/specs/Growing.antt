-- What holds of every network under construction in memory. Source: this tool's nets, whose signals are
-- numbered by `u32`.
use Rattle.std.specs.Prelude.{◌≤◌, ◌^◌}
use Rattle.quality_semantics.specs.WordNets.{WordNetValue, signals, IsWordNet}

pub record IsGrowing (W : WordNetValue) : Type 0 where
  pub formed : IsWordNet W
  pub few : signals W ≤ 2 ^ 30
