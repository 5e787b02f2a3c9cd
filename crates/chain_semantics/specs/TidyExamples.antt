-- Worked examples of tidying, computed from the definitions.
use Rattle.std.specs.Prelude.{ℕ, Bool, true, false, List, [], ◌∷◌, codes}
use Rattle.semantics.specs.declared.mark.Mark.{Mark}
use Rattle.semantics.specs.declared.mark.Mark.TheVariants.{Zero, One, Dash}
use Rattle.semantics.specs.Texts.{Bytes}
use Rattle.semantics.specs.Net.{TableValue, NetValue, constant_table}
use Rattle.chain_semantics.specs.Tidy.{IsTidiedFrom}

abbrev pub net : List Bytes → List TableValue → List ℕ → NetValue
net inputs tables outputs = record { model = codes "m"; inputs = inputs; tables = tables; outputs = outputs }

abbrev pub table : Bytes → List ℕ → List (List Mark) → Bool → TableValue
table name pins rows plane = record { name = name; pins = pins; rows = rows; plane = plane }

abbrev pub a : List Bytes
a = codes "a" ∷ []

abbrev pub a_b : List Bytes
a_b = codes "a" ∷ codes "b" ∷ []

abbrev pub y : Bytes
y = codes "y"

abbrev pub z : Bytes
z = codes "z"

abbrev pub buffer : Bytes → ℕ → TableValue
buffer name pin = table name (pin ∷ []) ((One ∷ []) ∷ []) true

abbrev pub inverter : Bytes → ℕ → TableValue
inverter name pin = table name (pin ∷ []) ((Zero ∷ []) ∷ []) true

abbrev pub w : Bytes
w = codes "w"

-- 1 where both are
abbrev pub conjunction : Bytes → ℕ → ℕ → TableValue
conjunction name p q = table name (p ∷ q ∷ []) ((One ∷ One ∷ []) ∷ []) true

-- one net for each rule, and the net that it is tidied to
pub record RuleExamples : Type 0 where
  pub zero_by_plane : IsTidiedFrom (net a (table y [] ([] ∷ []) false ∷ []) (1 ∷ []))
      (net a (constant_table y false ∷ []) (1 ∷ []))
  pub no_rows : IsTidiedFrom (net a_b (table y (0 ∷ 1 ∷ []) [] true ∷ []) (2 ∷ []))
      (net a_b (constant_table y false ∷ []) (2 ∷ []))
  pub two_inverters : IsTidiedFrom (net a (inverter y 0 ∷ inverter z 1 ∷ []) (2 ∷ []))
      (net a (buffer z 0 ∷ []) (1 ∷ []))
  pub both_values : IsTidiedFrom (net a (table y (0 ∷ 0 ∷ []) ((One ∷ Zero ∷ []) ∷ []) true ∷ []) (1 ∷ []))
      (net a (constant_table y false ∷ []) (1 ∷ []))
  pub both_values_plane_0 : IsTidiedFrom
      (net a (table y (0 ∷ 0 ∷ []) ((One ∷ Zero ∷ []) ∷ []) false ∷ []) (1 ∷ []))
      (net a (constant_table y true ∷ []) (1 ∷ []))
  pub constant_pin : IsTidiedFrom
      (net a (constant_table (codes "one") true ∷ table y (0 ∷ 1 ∷ []) ((One ∷ One ∷ []) ∷ []) true ∷ [])
      (2 ∷ []))
      (net a (buffer y 0 ∷ []) (1 ∷ []))
  pub dashed_pin : IsTidiedFrom
      (net a_b (table y (0 ∷ 1 ∷ []) ((One ∷ Dash ∷ []) ∷ []) false ∷ []) (2 ∷ []))
      (net a_b (table y (0 ∷ []) ((One ∷ []) ∷ []) false ∷ []) (2 ∷ []))

-- where another order of the rules, or another reading of one, would give another net
pub record OrderExamples : Type 0 where
  -- the column of dashes goes before the pins are joined, so b stands before a
  pub dashes_first : IsTidiedFrom
      (net a_b (table y (0 ∷ 1 ∷ 0 ∷ []) ((Dash ∷ One ∷ One ∷ []) ∷ []) true ∷ []) (2 ∷ []))
      (net a_b (table y (1 ∷ 0 ∷ []) ((One ∷ One ∷ []) ∷ []) true ∷ []) (2 ∷ []))
  -- a constant that stands behind its reader, told by its plane
  pub constant_by_plane : IsTidiedFrom
      (net a (table y (0 ∷ 2 ∷ []) ((One ∷ Zero ∷ []) ∷ []) true ∷ table z [] ([] ∷ []) false ∷ []) (1 ∷ []))
      (net a (buffer y 0 ∷ []) (1 ∷ []))
  -- a dash becomes the mark of the other pin, and the row that asks for both values goes
  pub joined : IsTidiedFrom
      (net a_b (table y (0 ∷ 1 ∷ 0 ∷ []) ((Dash ∷ Zero ∷ One ∷ []) ∷ (One ∷ One ∷ Zero ∷ []) ∷ []) true ∷ [])
      (2 ∷ []))
      (net a_b (table y (0 ∷ 1 ∷ []) ((One ∷ Zero ∷ []) ∷ []) true ∷ []) (2 ∷ []))
  -- the literal differs from the plane, so the readers' marks are turned, and dashes stay
  pub inverter_by_plane : IsTidiedFrom
      (net a_b (table y (0 ∷ []) ((One ∷ []) ∷ []) false
      ∷ table z (2 ∷ 1 ∷ []) ((One ∷ Dash ∷ []) ∷ (Dash ∷ Zero ∷ []) ∷ []) true ∷ []) (3 ∷ []))
      (net a_b (table z (0 ∷ 1 ∷ []) ((Zero ∷ Dash ∷ []) ∷ (Dash ∷ Zero ∷ []) ∷ []) true ∷ []) (2 ∷ []))
  -- a buffer that stands after its reader, told by literal 0 and plane 0
  pub buffer_by_plane : IsTidiedFrom
      (net a_b (table z (3 ∷ 1 ∷ []) ((One ∷ Zero ∷ []) ∷ []) true
      ∷ table y (0 ∷ []) ((Zero ∷ []) ∷ []) false ∷ []) (2 ∷ []))
      (net a_b (table z (0 ∷ 1 ∷ []) ((One ∷ Zero ∷ []) ∷ []) true ∷ []) (2 ∷ []))
  -- what is left without rows is the opposite of the plane
  pub no_row_left : IsTidiedFrom
      (net a (constant_table (codes "zero") false ∷ table y (0 ∷ 1 ∷ []) ((One ∷ One ∷ []) ∷ []) true ∷ [])
      (2 ∷ []))
      (net a (constant_table y false ∷ []) (1 ∷ []))
  pub no_row_left_plane_0 : IsTidiedFrom
      (net a (constant_table (codes "zero") false ∷ table y (0 ∷ 1 ∷ []) ((One ∷ One ∷ []) ∷ []) false ∷ [])
      (2 ∷ []))
      (net a (constant_table y true ∷ []) (1 ∷ []))
  -- an output is neither bypassed nor removed
  pub outputs_stay : IsTidiedFrom (net a (buffer y 0 ∷ inverter z 1 ∷ []) (1 ∷ 2 ∷ []))
      (net a (buffer y 0 ∷ inverter z 1 ∷ []) (1 ∷ 2 ∷ []))

-- bypasses beside those above: what is read past, and which marks are turned
pub record BypassExamples : Type 0 where
  -- the buffer reads a table, so its readers read that table
  pub past_to_a_table : IsTidiedFrom
      (net a_b (conjunction w 0 1 ∷ buffer y 2 ∷ conjunction z 3 0 ∷ []) (4 ∷ []))
      (net a_b (conjunction w 0 1 ∷ conjunction z 2 0 ∷ []) (3 ∷ []))
  -- an inverter of a table that stands behind both, told by literal 0 and plane 1: the readers' marks are
  -- turned, with either plane of the reader
  pub inverter_of_a_table : IsTidiedFrom
      (net a_b (table z (3 ∷ 1 ∷ []) ((One ∷ Dash ∷ []) ∷ (Zero ∷ Zero ∷ []) ∷ []) false ∷ inverter y 4
      ∷ conjunction w 0 1 ∷ []) (2 ∷ []))
      (net a_b (table z (3 ∷ 1 ∷ []) ((Zero ∷ Dash ∷ []) ∷ (One ∷ Zero ∷ []) ∷ []) false ∷ conjunction w 0 1
      ∷ []) (2 ∷ []))
  -- a buffer told by literal 0 and plane 0 turns no mark of a reader with plane 0
  pub buffer_of_a_table : IsTidiedFrom
      (net a_b (conjunction w 0 1 ∷ table y (2 ∷ []) ((Zero ∷ []) ∷ []) false
      ∷ table z (3 ∷ 1 ∷ []) ((One ∷ Zero ∷ []) ∷ []) false ∷ []) (4 ∷ []))
      (net a_b (conjunction w 0 1 ∷ table z (2 ∷ 1 ∷ []) ((One ∷ Zero ∷ []) ∷ []) false ∷ []) (3 ∷ []))
  -- of a reader that has the inverter at two pins both columns are turned; then the row asks for both values
  pub read_twice : IsTidiedFrom
      (net a_b (inverter y 0 ∷ table z (2 ∷ 1 ∷ 2 ∷ [])
      ((One ∷ One ∷ Dash ∷ []) ∷ (Zero ∷ Dash ∷ One ∷ []) ∷ []) true ∷ []) (3 ∷ []))
      (net a_b (table z (0 ∷ 1 ∷ []) ((Zero ∷ One ∷ []) ∷ []) true ∷ []) (2 ∷ []))
  -- each reader reads past, and a pin that reads something else keeps its marks
  pub two_readers : IsTidiedFrom
      (net a_b (inverter y 0 ∷ conjunction w 2 1 ∷ table z (1 ∷ 2 ∷ []) ((Zero ∷ One ∷ []) ∷ []) true ∷ [])
      (3 ∷ 4 ∷ []))
      (net a_b (table w (0 ∷ 1 ∷ []) ((Zero ∷ One ∷ []) ∷ []) true
      ∷ table z (1 ∷ 0 ∷ []) ((Zero ∷ Zero ∷ []) ∷ []) true ∷ []) (2 ∷ 3 ∷ []))
