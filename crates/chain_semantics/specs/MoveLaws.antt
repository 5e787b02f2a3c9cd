-- The laws about moves, flips and cared-for inputs, each the contract of a function without parameters.
use Rattle.std.specs.Prelude.{◌≡◌, ◌↔◌, ◌⊎◌, ℕ, ◌+◌, ◌<◌, ◌≤◌, Bool, true, not, List, length, slice_index}
use Rattle.std.specs.Prelude.{slice_index_or, IsTrue, All, Contains}
use Rattle.semantics.specs.declared.mark.Mark.{Mark}
use Rattle.semantics.specs.declared.mark.Mark.TheVariants.{Dash}
use Rattle.semantics.specs.Net.{TableValue, NetValue, table_at, input_count, table_count, signal_count}
use Rattle.semantics.specs.Net.{is_literal, row_literals, table_literals, literal_count, row_count}
use Rattle.semantics.specs.Net.{pin_count, IsAcyclic, IsSound, IsSmall, HasSamePorts}
use Rattle.semantics.specs.Value.{Assignment, table_value, value_of, outputs_of}
use Rattle.semantics.specs.Replaced.{replaced}
use Rattle.semantics.specs.Dependence.{DependsOn}
use Rattle.semantics.specs.declared.metric.Metric.{Metric}
use Rattle.chain_semantics.specs.declared.moves.Move.{Move}
use Rattle.chain_semantics.specs.declared.moves.Move.TheVariants.{Const, DropRow, DropLiteral, Signal, Pair}
use Rattle.chain_semantics.specs.Moves.{depends, near_signals, moves_of, table_of, row_at, moved}
use Rattle.chain_semantics.specs.Flips.{flipped_values, IsFlipped, flipped_outputs}
use Rattle.chain_semantics.specs.Care.{IsCaredFor, Exceeds, Changes, IsBrokenAt}

abbrev pub mark_at : List Mark → ℕ → Mark
mark_at marks p = slice_index_or marks p Dash

-- s stands at a place before that of u
pub record AreInOrder (signals : List ℕ) (s u : ℕ) : Type 0 where
  pub first : ℕ
  pub second : ℕ
  pub order : first < second
  pub within : second < length signals
  pub is_first : slice_index signals first ≡ s
  pub is_second : slice_index signals second ≡ u

-- the condition under which a net has the move
abbrev pub IsMoveOf : NetValue → Move → Type 0
IsMoveOf N (Const t value) = (t < table_count N) × (0 < table_literals (table_at N.tables t))
IsMoveOf N (DropRow t row) = (t < table_count N) × (1 < length (table_at N.tables t).rows)
    × (row < length (table_at N.tables t).rows)
IsMoveOf N (DropLiteral t row pin) =
    (t < table_count N) × (row < length (table_at N.tables t).rows)
    × (is_literal (mark_at (row_at (table_at N.tables t).rows row) pin) ≡ true)
IsMoveOf N (Signal t s flip) =
    (t < table_count N) × (1 < table_literals (table_at N.tables t)) × (s < signal_count N)
    × (¬ DependsOn (input_count N) N.tables t s)
IsMoveOf N (Pair t s flip_s u flip_u flip) =
    (t < table_count N) × (2 < table_literals (table_at N.tables t))
    × (1 < length (table_at N.tables t).pins) × AreInOrder (near_signals N (table_at N.tables t)) s u

-- Where there are two or more rows, each row has a literal. A tidy net's tables have this form, since each is
-- a canonical constant or has a literal in each row.
abbrev pub HasFullRows : TableValue → Type 0
HasFullRows t = 1 < length t.rows → All (λ marks. 0 < row_literals marks) t.rows

-- no larger in any count, and with fewer literals
pub record IsLoweredFrom (N M : NetValue) : Type 0 where
  pub literals : literal_count M < literal_count N
  pub tables : table_count M ≡ table_count N
  pub rows : row_count M ≤ row_count N
  pub pins : pin_count M ≤ pin_count N

-- M is sound, and small if N is small; the model, the ports and the number of tables stay
pub record IsMovedFrom (N M : NetValue) : Type 0 where
  pub sound : IsSound M
  pub small : IsSmall N → IsSmall M
  pub model : M.model ≡ N.model
  pub inputs : M.inputs ≡ N.inputs
  pub outputs : M.outputs ≡ N.outputs
  pub tables : table_count M ≡ table_count N
  pub ports : HasSamePorts N M

-- The computed dependence is that by paths. The list of moves holds each move whose condition holds, and no
-- other. A move keeps the net sound and small, and keeps its ports. Where no row without a literal stands
-- beside other rows, a move lowers the number of literals.
pub record MoveLaw : Type 0 where
  pub dependence : (n : ℕ) (tables : List TableValue) (t s : ℕ) → IsAcyclic n tables → s < n + length tables
      → IsTrue (depends n tables t s) ↔ DependsOn n tables t s
  pub members : (N : NetValue) (move : Move) → IsAcyclic (input_count N) N.tables
      → Contains (moves_of N) move ↔ IsMoveOf N move
  pub keeps : (N : NetValue) (move : Move) → IsSound N → Contains (moves_of N) move
      → IsMovedFrom N (moved N move)
  pub lowers : (N : NetValue) (move : Move) → IsSound N → All HasFullRows N.tables
      → Contains (moves_of N) move → IsLoweredFrom N (moved N move)

-- The flipped values are the one assignment that `IsFlipped` describes. A signal that does not depend on the
-- table has its value. Where a new table has the opposite value, all signals have the flipped values.
pub record FlipLaw : Type 0 where
  pub is : (n : ℕ) (tables : List TableValue) (x : List Bool) (t : ℕ) → IsAcyclic n tables → t < length tables
      → IsFlipped n tables x t (flipped_values n tables x t)
  pub only : (n : ℕ) (tables : List TableValue) (x : List Bool) (t : ℕ) → IsAcyclic n tables
      → t < length tables
      → (v : Assignment) → IsFlipped n tables x t v → (s : ℕ) → s < n + length tables
      → v s ≡ flipped_values n tables x t s
  pub apart : (n : ℕ) (tables : List TableValue) (x : List Bool) (t : ℕ) → IsAcyclic n tables
      → t < length tables
      → (s : ℕ) → s < n + length tables → ¬ DependsOn n tables t s
      → flipped_values n tables x t s ≡ value_of n tables x s
  pub opposite : (n : ℕ) (tables : List TableValue) (x : List Bool) (t : ℕ) (new : TableValue)
      → IsAcyclic n tables → IsAcyclic n (replaced tables t new)
      → t < length tables → table_value new (value_of n tables x) ≡ not (value_of n tables x (n + t))
      → (s : ℕ) → s < n + length tables
      → value_of n (replaced tables t new) x s ≡ flipped_values n tables x t s

-- Where a move leaves its table's value every output stays, and where the move changes it the outputs are the
-- flipped ones. So a move is broken at an input exactly where the move changes its table's value and the
-- input is cared for, or leaves that value and the unmoved net exceeds the bound.
pub record FlippedMoveLaw : Type 0 where
  pub left : (N : NetValue) (move : Move) (x : List Bool) → IsSound N → Contains (moves_of N) move
      → ¬ Changes N move x
      → outputs_of (moved N move) x ≡ outputs_of N x
  pub changed : (N : NetValue) (move : Move) (x : List Bool) → IsSound N → Contains (moves_of N) move
      → Changes N move x
      → outputs_of (moved N move) x ≡ flipped_outputs N x (table_of move)
  pub broken : (metric : Metric) (exact : NetValue) (bound : ℕ) (N : NetValue) (move : Move) (x : List Bool)
      → IsSound N → Contains (moves_of N) move
      → IsBrokenAt metric exact bound N move x
      ↔ ((Changes N move x × IsCaredFor metric exact bound N (table_of move) x)
      ⊎ ((¬ Changes N move x) × Exceeds metric exact bound N x))
