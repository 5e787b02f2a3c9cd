-- A count of calls, and a list of the numbers of those that are to fail.
use Rattle.std.specs.Prelude.{ℕ, ◌+◌, ◌-◌, ◌^◌, min, Bool, true, false, ◌&&◌, ◌||◌, ◌==◌, nat_le, List, []}
use Rattle.std.specs.Prelude.{◌∷◌}

-- one more, in a count that stays at the end of u64
abbrev pub one_more : ℕ → ℕ
one_more n = min (n + 1) (2 ^ 64 - 1)

-- the call of this number is listed
abbrev pub is_listed : List ℕ → ℕ → Bool
is_listed [] call = false
is_listed (n ∷ ns) call = (n == call) || is_listed ns call

-- no listed call comes after the first `calls` calls
abbrev pub none_left : List ℕ → ℕ → Bool
none_left [] calls = true
none_left (n ∷ ns) calls = nat_le n calls && none_left ns calls
