-- The six rules of tidying: for each its condition at a table, and what the table or the net becomes. Source:
-- this tool's own.
use Rattle.std.specs.Prelude.{ℕ, zero, suc, ◌+◌, ◌-◌, ◌==◌, Bool, true, false, not, ◌&&◌, ◌||◌}
use Rattle.std.specs.Prelude.{if◌then◌else◌, Option, Some, None, List, [], ◌∷◌, map, length, take, slice_set}
use Rattle.std.specs.Prelude.{slice_index, slice_index_or, nat_le}
use Rattle.std.specs.List.{filter, list_any, list_all, remove}
use Rattle.semantics.specs.declared.mark.Mark.{Mark}
use Rattle.semantics.specs.declared.mark.Mark.TheVariants.{Zero, One, Dash}
use Rattle.semantics.specs.Net.{TableValue, NetValue, table_at, input_count, is_literal, row_literals}
use Rattle.semantics.specs.Value.{mark_matches, table_value}
use Rattle.semantics.specs.Net.{constant_table}
use Rattle.semantics.specs.Renamed.{redirect, lowered, without}

abbrev pub is_empty : {X : Type 0} → List X → Bool
is_empty [] = true
is_empty (x ∷ xs) = false

abbrev pub has : List ℕ → ℕ → Bool
has numbers s = list_any (λ p. s == p) numbers

-- the first number that passes, among `count` numbers from `start` on
abbrev pub first_from : (ℕ → Bool) → ℕ → ℕ → Option ℕ
first_from test start zero = None
first_from test start (suc count) = if test start then Some start else first_from test (start + 1) count

-- the first place of a pin that passes
abbrev pub first_pin : (ℕ → Bool) → TableValue → Option ℕ
first_pin test t = first_from test 0 (length t.pins)

abbrev pub pin_at : TableValue → ℕ → ℕ
pin_at t q = slice_index t.pins q

abbrev pub mark_at : List Mark → ℕ → Mark
mark_at marks q = slice_index_or marks q Dash

abbrev pub without_pin : ℕ → TableValue → TableValue
without_pin q t = record t { pins = remove t.pins q; rows = map (λ marks. remove marks q) t.rows }

-- a table that is left without rows becomes the canonical constant whose value is the opposite of its plane
abbrev pub settled_rows : List (List Mark) → TableValue → TableValue
settled_rows [] t = constant_table t.name (not t.plane)
settled_rows (marks ∷ rows) t = t

abbrev pub settled : TableValue → TableValue
settled t = settled_rows t.rows t

-- 1. Constant pin: the first pin that is a table without pins. The rows that ask for the other value go, and
--    then the pin.
abbrev pub is_constant_signal : ℕ → List TableValue → ℕ → Bool
is_constant_signal n tables s = nat_le n s && is_empty (table_at tables (s - n)).pins

abbrev pub constant_pin : ℕ → List TableValue → TableValue → Option ℕ
constant_pin n tables t = first_pin (λ q. is_constant_signal n tables (pin_at t q)) t

-- a table without pins has this value, whatever the signals are
abbrev pub constant_value : ℕ → List TableValue → ℕ → Bool
constant_value n tables s = table_value (table_at tables (s - n)) (λ p. false)

abbrev pub with_pin_fixed : ℕ → Bool → TableValue → TableValue
with_pin_fixed q value t = settled
    (without_pin q (record t { rows = filter (λ marks. mark_matches (mark_at marks q) value) t.rows }))

-- 2. Column of dashes: the first pin that has a dash in every row, where there is a row. The pin goes.
abbrev pub is_dash : Mark → Bool
is_dash m = not (is_literal m)

abbrev pub dashed_pin : TableValue → Option ℕ
dashed_pin t = first_pin (λ q. not (is_empty t.rows) && list_all (λ marks. is_dash (mark_at marks q)) t.rows)
    t

-- 3. Repeated pin: the first place q of a pin whose signal stands at an earlier place, and p the first such
--    place. The rows that ask for both values go, a dash at p becomes the mark at q, and then the pin at q
--    goes.
abbrev pub repeated_pin : TableValue → Option ℕ
repeated_pin t = first_pin (λ q. has (take q t.pins) (pin_at t q)) t

abbrev pub first_place_of : List ℕ → ℕ → ℕ
first_place_of [] s = 0
first_place_of (p ∷ pins) s = if s == p then 0 else suc (first_place_of pins s)

abbrev pub clash : Mark → Mark → Bool
clash Zero One = true
clash One Zero = true
clash _ _ = false

abbrev pub joined : Mark → Mark → Mark
joined Dash m = m
joined m _ = m

abbrev pub with_marks_joined : ℕ → ℕ → List Mark → List Mark
with_marks_joined p q marks = slice_set marks p (joined (mark_at marks p) (mark_at marks q))

abbrev pub with_pins_joined : ℕ → ℕ → TableValue → TableValue
with_pins_joined p q t = settled (without_pin q (record t {
  rows = map (with_marks_joined p q)
      (filter (λ marks. not (clash (mark_at marks p) (mark_at marks q))) t.rows);
}))

-- 4. Constant: a table that is no canonical constant and has no row, or a row without literals. It becomes
--    the canonical constant of its value.
abbrev pub is_canonical_rows : List (List Mark) → Bool
is_canonical_rows [] = true
is_canonical_rows ([] ∷ []) = true
is_canonical_rows _ = false

abbrev pub is_canonical : TableValue → Bool
is_canonical t = is_empty t.pins && t.plane && is_canonical_rows t.rows

abbrev pub is_constant : TableValue → Bool
is_constant t = not (is_canonical t)
    && (is_empty t.rows || list_any (λ marks. row_literals marks == 0) t.rows)

abbrev pub made_canonical : TableValue → TableValue
made_canonical t = constant_table t.name (not (is_empty t.rows) && t.plane)

-- 5. Bypass: a table that is no output, that has one pin and one row with a literal, and that some table
-- reads. Each reader reads the table's pin in the place of the table; where the table inverts, the marks of
-- the reader's column become their opposites.
abbrev pub is_output : NetValue → ℕ → Bool
is_output N s = has N.outputs s

abbrev pub is_read : List TableValue → ℕ → Bool
is_read tables s = list_any (λ t. has t.pins s) tables

abbrev pub is_one_literal : List ℕ → List (List Mark) → Bool
is_one_literal (p ∷ []) ((m ∷ []) ∷ []) = is_literal m
is_one_literal _ _ = false

abbrev pub has_one_literal : TableValue → Bool
has_one_literal t = is_one_literal t.pins t.rows

abbrev pub is_bypassed : NetValue → ℕ → Bool
is_bypassed N i = has_one_literal (table_at N.tables i) && not (is_output N (input_count N + i))
    && is_read N.tables (input_count N + i)

-- the literal's value differs from the plane
abbrev pub is_inverter : TableValue → Bool
is_inverter t = list_all (λ marks. not (mark_matches (mark_at marks 0) t.plane)) t.rows

abbrev pub opposite : Mark → Mark
opposite Zero = One
opposite One = Zero
opposite Dash = Dash

abbrev pub with_marks_turned : ℕ → List ℕ → List Mark → List Mark
with_marks_turned s [] marks = marks
with_marks_turned s (p ∷ pins) [] = []
with_marks_turned s (p ∷ pins) (m ∷ marks)
    = (if p == s then opposite m else m) ∷ with_marks_turned s pins marks

-- each table that reads signal s reads signal p in its place; the flag says that p has the opposite value of
-- s
abbrev pub reading_past : ℕ → ℕ → Bool → TableValue → TableValue
reading_past s p inverted t = record t {
  pins = map (redirect s p) t.pins;
  rows = if inverted then map (with_marks_turned s t.pins) t.rows else t.rows;
}

abbrev pub with_bypass : NetValue → ℕ → NetValue
with_bypass N i = record N {
  tables = map (reading_past (input_count N + i) (pin_at (table_at N.tables i) 0)
      (is_inverter (table_at N.tables i))) N.tables;
}

-- 6. Unread: a table that is no output and that no table reads. It goes, and the later tables move down by
--    one.
abbrev pub is_unread : NetValue → ℕ → Bool
is_unread N i = not (is_output N (input_count N + i)) && not (is_read N.tables (input_count N + i))

abbrev pub without_table : NetValue → ℕ → NetValue
without_table N i = record N {
  tables = without (input_count N) N.tables i;
  outputs = map (lowered (input_count N + i)) N.outputs;
}
