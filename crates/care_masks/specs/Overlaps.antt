-- Where rows of a table overlap. Source: covers in two-level logic, where a row can be left out only if the
-- others match wherever it does.
use Rattle.std.specs.Prelude.{◌≡◌, ℕ, ◌<◌, Bool, false, ◌&&◌, ◌||◌, List, [], ◌∷◌, length, slice_index}
use Rattle.std.specs.List.{list_any}
use Rattle.semantics.specs.declared.mark.Mark.{Mark}
use Rattle.semantics.specs.Net.{TableValue, NetValue, table_at, table_count}
use Rattle.semantics.specs.Value.{Assignment, row_matches}
use Rattle.lane_nets.specs.Words.{word_bit, values_at}

-- two of the rows or more pass the test
abbrev pub two_pass : (List Mark → Bool) → List (List Mark) → Bool
two_pass test [] = false
two_pass test (row ∷ rows) = (test row && list_any test rows) || two_pass test rows

-- two rows of the table or more match
abbrev pub rows_overlap : TableValue → Assignment → Bool
rows_overlap table v = two_pass (λ marks. row_matches marks table.pins v) table.rows

-- at each pattern of a block the word of table t tells whether its rows overlap there
pub record AreOverlapsOf (N : NetValue) (words overlaps : List ℕ) : Type 0 where
  pub as_many : length overlaps ≡ table_count N
  pub each : (t b : ℕ) → t < table_count N → b < 64
      → word_bit (slice_index overlaps t) b ≡ rows_overlap (table_at N.tables t) (values_at words b)
