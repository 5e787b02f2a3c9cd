-- The literals of rows and tables over the literals of signals.
use Rattle.std.specs.Prelude.{ℕ, ◌&&◌, List, slice_index_or}
use Rattle.std.specs.List.{list_any}
use Rattle.semantics.specs.declared.mark.Mark.{Mark}
use Rattle.semantics.specs.Net.{TableValue}
use Rattle.semantics.specs.Value.{Assignment, mark_matches, row_matches, table_value}
use Rattle.aig_core.specs.Graph.{GraphValue, IsLiteralOf, literal_value}
use Rattle.aig_core.specs.Grown.{HasValue}

-- the values of signals by their literals
abbrev pub signal_values : List ℕ → Assignment → Assignment
signal_values signals v = λ s. literal_value v (slice_index_or signals s 0)

-- r is the conjunction of `all` with the statement that the pin is as the mark asks
pub record IsMarked (g : GraphValue) (m : Mark) (pin all r : ℕ) : Type 0 where
  pub within : IsLiteralOf g r
  pub is : HasValue g r (λ x v. literal_value v all && mark_matches m (literal_value v pin))

-- r is true where the row matches
pub record IsRowOf (g : GraphValue) (marks : List Mark) (pins signals : List ℕ) (r : ℕ) : Type 0 where
  pub within : IsLiteralOf g r
  pub is : HasValue g r (λ x v. row_matches marks pins (signal_values signals v))

-- r is true where some row matches
pub record IsSomeRowOf (g : GraphValue) (rows : List (List Mark)) (pins signals : List ℕ)
    (r : ℕ) : Type 0 where
  pub within : IsLiteralOf g r
  pub is : HasValue g r (λ x v. list_any (λ marks. row_matches marks pins (signal_values signals v)) rows)

-- r has the value of the table
pub record IsTableOf (g : GraphValue) (t : TableValue) (signals : List ℕ) (r : ℕ) : Type 0 where
  pub within : IsLiteralOf g r
  pub is : HasValue g r (λ x v. table_value t (signal_values signals v))
