-- How large the networks are, so that every joint net of two nets that are read has room.
use Rattle.std.specs.Prelude.{ℕ, ◌+◌, ◌^◌, ◌<◌, ◌≤◌, List, length, sum_by}
use Rattle.semantics.specs.declared.metric.Metric.{Metric}
use Rattle.semantics.specs.declared.limits.TheConstants.{MOST_OUTPUTS}
use Rattle.semantics.specs.Error.{word_width}
use Rattle.semantics.specs.Net.{TableValue, NetValue, signal_count, row_count, IsSmall}
use Rattle.quality_semantics.specs.Quality.{quality}
use Rattle.quality_semantics.specs.Joint.{joint_net}

-- how many tables there are, and how many rows they have in all
abbrev pub tables_and_rows : List TableValue → ℕ
tables_and_rows tables = length tables + sum_by (λ t. length t.rows) tables

-- At every metric and level: the quality network for at most as many outputs as a net that is read has, and
-- the joint net of two nets that are read; and the same two where all outputs are one word.
pub record RoomLaw : Type 0 where
  pub all_words : (metric : Metric) (n k : ℕ) → n ≤ MOST_OUTPUTS
      → tables_and_rows (quality metric n k).net.tables ≤ 9600000
  pub one_word : (metric : Metric) (n k : ℕ) → n ≤ MOST_OUTPUTS → n ≤ word_width metric n
      → tables_and_rows (quality metric n k).net.tables ≤ 150000
  pub joint : (N M : NetValue) (metric : Metric) (k : ℕ) → IsSmall N → IsSmall M
      → signal_count (joint_net N M metric k) + row_count (joint_net N M metric k) < 2 ^ 24
  pub joint_one_word : (N M : NetValue) (metric : Metric) (k : ℕ) → IsSmall N → IsSmall M
      → length N.outputs ≤ word_width metric (length N.outputs)
      → signal_count (joint_net N M metric k) + row_count (joint_net N M metric k) < 2 ^ 18
