-- Literals that are marked in place.
use Rattle.std.specs.Prelude.{◌≡◌, ℕ, ◌+◌, ◌*◌, Bool, true, false, List, length, slice_index_or, nat_lt}
use Rattle.std.specs.Prelude.{nat_abs, int_lt, if◌then◌else◌, ℤ, pos, All}

-- where the mark of a literal stands: the two of a variable side by side
abbrev pub index_of : ℤ → ℕ
index_of l = nat_abs l * 2 + (if int_lt (pos 0) l then 1 else 0)

abbrev pub mark_at : List Bool → ℤ → Bool
mark_at marks l = slice_index_or marks (index_of l) false

-- the mark of the literal; for a literal that has no mark, whether it is in the set apart
abbrev pub is_marked : List Bool → Bool → ℤ → Bool
is_marked marks apart l = if nat_lt (index_of l) (length marks) then mark_at marks l else apart

-- the marks of these literals were taken back, and no mark was made
pub record Unmarked (marks left : List Bool) (literals : List ℤ) : Type 0 where
  pub long : length left ≡ length marks
  pub kept : (l : ℤ) → mark_at left l ≡ true → mark_at marks l ≡ true
  pub gone : All (λ l. mark_at left l ≡ false) literals
