-- Decimal numbers: `0`, or digits without a leading zero; no sign. Source: this tool's own words and texts.
use Rattle.std.specs.Prelude.{ℕ, ◌+◌, ◌-◌, ◌*◌, Bool, false, not, ◌&&◌, ◌==◌, [], ◌∷◌, fold, nat_le}
use Rattle.std.specs.List.{list_all}
use Rattle.semantics.specs.Texts.{Bytes}

abbrev pub is_digit : ℕ → Bool
is_digit c = nat_le 48 c && nat_le c 57

abbrev pub digits_number : Bytes → ℕ
digits_number digits = fold (λ n c. 10 * n + (c - 48)) 0 digits

abbrev pub is_decimal : Bytes → Bool
is_decimal [] = false
is_decimal (c ∷ []) = is_digit c
is_decimal (c ∷ d ∷ cs) = not (c == 48) && list_all is_digit (c ∷ d ∷ cs)
