-- The value of each signal at an input vector. Source: BLIF's tables.
use Rattle.std.specs.Prelude.{◌≡◌, ℕ, zero, suc, ◌+◌, ◌-◌, ◌<◌, Bool, true, false, not, ◌&&◌, if◌then◌else◌}
use Rattle.std.specs.Prelude.{List, [], ◌∷◌, map, length, slice_index_or, nat_lt}
use Rattle.std.specs.List.{list_any}
use Rattle.semantics.specs.declared.mark.Mark.{Mark}
use Rattle.semantics.specs.declared.mark.Mark.TheVariants.{Zero, One, Dash}
use Rattle.semantics.specs.Net.{TableValue, NetValue, table_at, input_count}

-- a truth value for each signal
abbrev pub Assignment : Type 0
Assignment = ℕ → Bool

abbrev pub mark_matches : Mark → Bool → Bool
mark_matches Zero bit = not bit
mark_matches One bit = bit
mark_matches Dash bit = true

-- each pin whose mark is 0 or 1 has the value of its mark
abbrev pub row_matches : List Mark → List ℕ → Assignment → Bool
row_matches [] pins v = true
row_matches (m ∷ marks) [] v = true
row_matches (m ∷ marks) (s ∷ pins) v = mark_matches m (v s) && row_matches marks pins v

-- the plane if some row matches, else the opposite of the plane
abbrev pub table_value : TableValue → Assignment → Bool
table_value t v = if list_any (λ marks. row_matches marks t.pins v) t.rows then t.plane else not t.plane

-- each input has its bit, and each table the value of its rows
pub record IsConsistent (n : ℕ) (tables : List TableValue) (x : List Bool) (v : Assignment) : Type 0 where
  pub input : (s : ℕ) → s < n → v s ≡ slice_index_or x s false
  pub table : (i : ℕ) → i < length tables → v (n + i) ≡ table_value (table_at tables i) v

-- All signals from the values before. After one round more than there are tables, each signal of acyclic
-- tables has its value (`ValueLaw`).
abbrev pub round : ℕ → List TableValue → List Bool → Assignment → Assignment
round n tables x v s = if nat_lt s n then slice_index_or x s false
    else table_value (table_at tables (s - n)) v

unfoldable pub after_rounds : ℕ → List TableValue → List Bool → ℕ → Assignment
after_rounds n tables x zero = λ _. false
after_rounds n tables x (suc rounds) = round n tables x (after_rounds n tables x rounds)

unfoldable pub value_of : ℕ → List TableValue → List Bool → Assignment
value_of n tables x = after_rounds n tables x (suc (length tables))

-- The two laws by which values are spoken of: the values are consistent with every table, and a consistent
-- assignment is the values.
pub record HasOneValue (n : ℕ) (tables : List TableValue) (x : List Bool) : Type 0 where
  pub consistent : IsConsistent n tables x (value_of n tables x)
  pub only : (v : Assignment) → IsConsistent n tables x v → (s : ℕ) → s < n + length tables
      → v s ≡ value_of n tables x s

-- the outputs' values at the input vector x
unfoldable pub outputs_of : NetValue → List Bool → List Bool
outputs_of N x = map (value_of (input_count N) N.tables x) N.outputs
