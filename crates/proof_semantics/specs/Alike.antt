-- Signals of a net that are alike: the same gate over the same signals, as far as its tables show. Source:
-- structural hashing, as in equivalence checking.
use Rattle.std.specs.Prelude.{◌≡◌, ◌⊎◌, ℕ, zero, suc, ◌+◌, ◌-◌, ◌<◌, ◌≤◌, List, length}
use Rattle.std.specs.List.{AllZip}
use Rattle.semantics.specs.Net.{TableValue, table_at}

-- both signals are tables, with the same plane, the same rows in order and equally many pins; each pin of s
-- stands in the relation to the pin of u at the same place
pub record HaveSameForm (n : ℕ) (tables : List TableValue) (relation : ℕ → ℕ → Type 0)
    (s u : ℕ) : Type 0 where
  pub s_table : (n ≤ s) × (s < n + length tables)
  pub u_table : (n ≤ u) × (u < n + length tables)
  pub plane : (table_at tables (s - n)).plane ≡ (table_at tables (u - n)).plane
  pub rows : (table_at tables (s - n)).rows ≡ (table_at tables (u - n)).rows
  pub pins : AllZip relation (table_at tables (s - n)).pins (table_at tables (u - n)).pins

-- alike, as at most `levels` levels of tables show
abbrev pub IsAlikeIn : ℕ → List TableValue → ℕ → ℕ → ℕ → Type 0
IsAlikeIn n tables zero s u = s ≡ u
IsAlikeIn n tables (suc levels) s u = (s ≡ u) ⊎ HaveSameForm n tables (IsAlikeIn n tables levels) s u

-- Signal s is alike to signal u: they are the same signal, or tables of the same form over pins that are
-- alike (`AlikeLaw`).
abbrev pub IsAlike : ℕ → List TableValue → ℕ → ℕ → Type 0
IsAlike n tables s u = (levels : ℕ) × IsAlikeIn n tables levels s u

-- u is the first of the signals that s is alike to, and stands before s; so both are tables
pub record IsFirstAlike (n : ℕ) (tables : List TableValue) (s u : ℕ) : Type 0 where
  pub earlier : u < s
  pub alike : IsAlike n tables s u
  pub first : (e : ℕ) → e < u → ¬ IsAlike n tables s e
