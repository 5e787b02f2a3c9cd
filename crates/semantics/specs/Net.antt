-- Nets, their soundness and their size. Source: BLIF's `.model`, `.inputs`, `.outputs` and `.names`; the
-- limits are this tool's own. Signals 0 to n - 1 are the n inputs, and signal n + i is table i.
use Rattle.std.specs.Prelude.{◌≡◌, ◌≢◌, ◌⊎◌, ℕ, zero, suc, ◌+◌, ◌-◌, ◌<◌, ◌≤◌, Bool, true, false, List, []}
use Rattle.std.specs.Prelude.{◌∷◌, ◌++◌, map, length, slice_index, slice_index_or, sum_by, count_by, All}
use Rattle.std.specs.Prelude.{AllPairs}
use Rattle.std.specs.List.{AllByRecursion}
use Rattle.semantics.specs.declared.mark.Mark.{Mark}
use Rattle.semantics.specs.declared.mark.Mark.TheVariants.{Zero, One, Dash}
use Rattle.semantics.specs.declared.limits.TheConstants.{MOST_INPUTS, MOST_OUTPUTS, MOST_TABLES}
use Rattle.semantics.specs.declared.limits.TheConstants.{MOST_TABLE_PINS, MOST_PINS, MOST_ROWS}
use Rattle.semantics.specs.Texts.{Bytes}

-- a `.names` table: its name, the signals of its pins, its rows of marks, and the output plane of all its
-- rows
pub record TableValue : Type 0 where
  pub name : Bytes
  pub pins : List ℕ
  pub rows : List (List Mark)
  pub plane : Bool

pub record NetValue : Type 0 where
  pub model : Bytes
  pub inputs : List Bytes
  pub tables : List TableValue
  pub outputs : List ℕ

-- what stands past the end of a list of tables
abbrev pub no_table : TableValue
no_table = record { name = []; pins = []; rows = []; plane = true }

abbrev pub table_at : List TableValue → ℕ → TableValue
table_at tables i = slice_index_or tables i no_table

abbrev pub input_count : NetValue → ℕ
input_count N = length N.inputs

abbrev pub table_count : NetValue → ℕ
table_count N = length N.tables

abbrev pub signal_count : NetValue → ℕ
signal_count N = input_count N + table_count N

-- the names of the signals, in the order of their numbers
abbrev pub signal_names : NetValue → List Bytes
signal_names N = N.inputs ++ map (λ t. t.name) N.tables

abbrev pub name_of : List Bytes → ℕ → Bytes
name_of names s = slice_index_or names s []

-- A literal is a mark 0 or 1 in a row.
abbrev pub is_literal : Mark → Bool
is_literal Zero = true
is_literal One = true
is_literal Dash = false

abbrev pub row_literals : List Mark → ℕ
row_literals marks = count_by is_literal marks

abbrev pub table_literals : TableValue → ℕ
table_literals t = sum_by row_literals t.rows

abbrev pub literal_count : NetValue → ℕ
literal_count N = sum_by table_literals N.tables

abbrev pub pin_count : NetValue → ℕ
pin_count N = sum_by (λ t. length t.pins) N.tables

abbrev pub row_count : NetValue → ℕ
row_count N = sum_by (λ t. length t.rows) N.tables

-- The canonical constants: no pins and plane 1; constant 0 has no row, and constant 1 has one row without
-- marks.
abbrev pub constant_table : Bytes → Bool → TableValue
constant_table name false = record { name = name; pins = []; rows = []; plane = true }
constant_table name true = record { name = name; pins = []; rows = [] ∷ []; plane = true }

-- A name has 1 to 1,023 bytes, each printable, no blank and no `#`, and does not end in a backslash.
abbrev pub IsNameByte : ℕ → Type 0
IsNameByte b = (33 ≤ b) × (b ≤ 126) × (b ≢ 35)

pub record IsName (bytes : Bytes) : Type 0 where
  pub not_empty : 0 < length bytes
  pub short : length bytes ≤ 1023
  pub printable : All IsNameByte bytes
  pub ending : slice_index bytes (length bytes - 1) ≢ 92

-- each row has one mark per pin, and a table without rows has plane 1
pub record IsTable (t : TableValue) : Type 0 where
  pub named : IsName t.name
  pub widths : All (λ marks. length marks ≡ length t.pins) t.rows
  pub plane : t.rows ≡ [] → t.plane ≡ true

-- Signal s needs at most `steps` steps from the inputs: an input needs none, and a table one more than its
-- pins.
abbrev pub IsGroundedIn : ℕ → List TableValue → ℕ → ℕ → Type 0
IsGroundedIn n tables zero s = s < n
IsGroundedIn n tables (suc steps) s =
    (s < n) ⊎ ((s < n + length tables)
    × AllByRecursion (IsGroundedIn n tables steps) (table_at tables (s - n)).pins)

-- every table is grounded in `length tables` steps
abbrev pub IsAcyclic : ℕ → List TableValue → Type 0
IsAcyclic n tables = (i : ℕ) → i < length tables → IsGroundedIn n tables (length tables) (n + i)

pub record IsSound (N : NetValue) : Type 0 where
  pub model_named : IsName N.model
  pub inputs_named : All IsName N.inputs
  pub tables_formed : All IsTable N.tables
  pub names_differ : AllPairs ◌≢◌ (signal_names N)
  pub has_output : 0 < length N.outputs
  pub outputs_are_signals : All (λ s. s < signal_count N) N.outputs
  pub pins_are_signals : All (λ t. All (λ s. s < signal_count N) t.pins) N.tables
  pub acyclic : IsAcyclic (input_count N) N.tables

-- the limits of a netlist that is read
pub record IsSmall (N : NetValue) : Type 0 where
  pub inputs : length N.inputs ≤ MOST_INPUTS
  pub outputs : length N.outputs ≤ MOST_OUTPUTS
  pub tables : length N.tables ≤ MOST_TABLES
  pub table_pins : All (λ t. length t.pins ≤ MOST_TABLE_PINS) N.tables
  pub all_pins : pin_count N ≤ MOST_PINS
  pub all_rows : row_count N ≤ MOST_ROWS

-- each pin of a table is an input or an earlier table
abbrev pub IsInOrder : ℕ → List TableValue → Type 0
IsInOrder n tables = (i : ℕ) → i < length tables → All (λ s. s < n + i) (table_at tables i).pins

-- N and M have the same input names and the same output names, in the same order
pub record HasSamePorts (N M : NetValue) : Type 0 where
  pub inputs : N.inputs ≡ M.inputs
  pub outputs : map (name_of (signal_names N)) N.outputs ≡ map (name_of (signal_names M)) M.outputs
