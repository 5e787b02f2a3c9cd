-- What a move makes of its table, and the value of the moved table by kind.
use Rattle.std.specs.Prelude.{◌≡◌, ◌≢◌, ◌↔◌, ◌⊎◌, ℕ, ◌<◌, Bool, true, not, ◌&&◌, if◌then◌else◌, List, []}
use Rattle.std.specs.Prelude.{◌∷◌, ◌++◌, length}
use Rattle.semantics.specs.declared.mark.Mark.{Mark}
use Rattle.semantics.specs.declared.mark.Mark.TheVariants.{Zero, One, Dash}
use Rattle.semantics.specs.Net.{TableValue, NetValue, table_at, table_count, constant_table}
use Rattle.semantics.specs.Value.{Assignment, mark_matches, table_value}
use Rattle.chain_semantics.specs.declared.moves.Move.{Move}
use Rattle.chain_semantics.specs.declared.moves.Move.TheVariants.{Const, DropRow, DropLiteral, Signal, Pair}
use Rattle.chain_semantics.specs.TidyRules.{pin_at, mark_at}
use Rattle.chain_semantics.specs.Moves.{table_of, row_at, moved_table, moved}

-- the mark of row r at pin q is a dash, or the pin has its value
abbrev pub MarkHolds : TableValue → Assignment → ℕ → ℕ → Type 0
MarkHolds t v r q = mark_matches (mark_at (row_at t.rows r) q) (v (pin_at t q)) ≡ true

-- row r holds at each of its pins
abbrev pub RowHolds : TableValue → Assignment → ℕ → Type 0
RowHolds t v r = (q : ℕ) → q < length (row_at t.rows r) → q < length t.pins → MarkHolds t v r q

-- row r holds at each of its pins but pin p
abbrev pub RowHoldsBut : TableValue → Assignment → ℕ → ℕ → Type 0
RowHoldsBut t v r p = (q : ℕ) → q < length (row_at t.rows r) → q < length t.pins → q ≢ p → MarkHolds t v r q

-- a row holds that is not row r
abbrev pub AnotherRowHolds : TableValue → Assignment → ℕ → Type 0
AnotherRowHolds t v r = (k : ℕ) × (k < length t.rows) × (k ≢ r) × RowHolds t v k

-- the moved table has its plane as value
abbrev pub HasPlane : TableValue → Move → Assignment → Type 0
HasPlane t move v = table_value (moved_table t move) v ≡ t.plane

-- a value, or its opposite
abbrev pub turned_over : Bool → Bool → Bool
turned_over flip value = if flip then not value else value

-- The moved net has the moved table in the place of the old one, and every other table as it was. The moved
-- table keeps its name. A table that becomes a constant is the canonical one. A table that becomes a copy has
-- one pin, one row and plane 1, whatever its plane was. A table that becomes a pair has two pins and one row,
-- and plane 0 where its value is turned over. A constant has its value whatever the signals are. A copy has
-- the value of its signal, or the opposite. A pair has the conjunction of its signals, each of them plain or
-- turned over, or the opposite of that. Without a row the other rows decide; without a literal the row no
-- longer asks for that pin's value. Rows and literals that are left out leave the order of the others, the
-- pins and the plane.
pub record MovedValueLaw : Type 0 where
  pub itself : (N : NetValue) (move : Move) → table_of move < table_count N
      → table_at (moved N move).tables (table_of move) ≡ moved_table (table_at N.tables (table_of move)) move
  pub others : (N : NetValue) (move : Move) (i : ℕ) → i ≢ table_of move
      → table_at (moved N move).tables i ≡ table_at N.tables i
  pub name : (t : TableValue) (move : Move) → (moved_table t move).name ≡ t.name
  pub becomes_constant : (t : TableValue) (i : ℕ) (value : Bool)
      → moved_table t (Const i value) ≡ constant_table t.name value
  pub becomes_copy : (t : TableValue) (i s : ℕ) (flip : Bool)
      → moved_table t (Signal i s flip)
      ≡ record {
        name = t.name;
        pins = s ∷ [];
        rows = ((if flip then Zero else One) ∷ []) ∷ [];
        plane = true;
      }
  pub becomes_pair : (t : TableValue) (i s : ℕ) (flip_s : Bool) (u : ℕ) (flip_u flip : Bool)
      → moved_table t (Pair i s flip_s u flip_u flip)
      ≡ record {
        name = t.name;
        pins = s ∷ u ∷ [];
        rows = ((if flip_s then Zero else One) ∷ (if flip_u then Zero else One) ∷ []) ∷ [];
        plane = not flip;
      }
  pub constant : (t : TableValue) (i : ℕ) (value : Bool) (v : Assignment)
      → table_value (moved_table t (Const i value)) v ≡ value
  pub row : (t : TableValue) (i r : ℕ) (v : Assignment) → r < length t.rows
      → HasPlane t (DropRow i r) v ↔ AnotherRowHolds t v r
  pub literal : (t : TableValue) (i r p : ℕ) (v : Assignment) → r < length t.rows
      → HasPlane t (DropLiteral i r p) v ↔ (AnotherRowHolds t v r ⊎ RowHoldsBut t v r p)
  pub signal : (t : TableValue) (i s : ℕ) (flip : Bool) (v : Assignment)
      → table_value (moved_table t (Signal i s flip)) v ≡ (if flip then not (v s) else v s)
  pub pair : (t : TableValue) (i s : ℕ) (flip_s : Bool) (u : ℕ) (flip_u flip : Bool) (v : Assignment)
      → table_value (moved_table t (Pair i s flip_s u flip_u flip)) v
      ≡ turned_over flip (turned_over flip_s (v s) && turned_over flip_u (v u))
  pub rows_left : (t : TableValue) (i : ℕ) (before : List (List Mark)) (marks : List Mark)
      (after : List (List Mark)) → t.rows ≡ before ++ marks ∷ after
      → moved_table t (DropRow i (length before)) ≡ record t { rows = before ++ after }
  pub literals_left : (t : TableValue) (i : ℕ) (before : List (List Mark)) (left : List Mark) (m : Mark)
      (right : List Mark) (after : List (List Mark))
      → t.rows ≡ before ++ (left ++ m ∷ right) ∷ after
      → moved_table t (DropLiteral i (length before) (length left))
      ≡ record t { rows = before ++ (left ++ Dash ∷ right) ∷ after }
