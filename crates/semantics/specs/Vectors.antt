-- Input vectors in counting order: vector j has input i equal to bit i of j. Source: this tool's own order.
use Rattle.std.specs.Prelude.{◌≡◌, ◌==◌, ℕ, zero, suc, ◌/◌, ◌%◌, ◌^◌, ◌<◌, ◌≤◌, Bool, List, [], ◌∷◌, map}
use Rattle.std.specs.Prelude.{length}
use Rattle.std.specs.List.{range_with_len}
use Rattle.semantics.specs.Error.{number_of}

abbrev pub bits_of : ℕ → ℕ → List Bool
bits_of zero j = []
bits_of (suc n) j = (j % 2 == 1) ∷ bits_of n (j / 2)

-- all vectors of n bits in counting order
unfoldable pub all_vectors : ℕ → List (List Bool)
all_vectors n = map (bits_of n) (range_with_len 0 (2 ^ n))

-- x is the first vector of n bits, in counting order, at which f is greatest, and `most` is the value of f at
-- x
pub record IsFirstGreatestAt (n : ℕ) (f : List Bool → ℕ) (most : ℕ) (x : List Bool) : Type 0 where
  pub width : length x ≡ n
  pub attained : f x ≡ most
  pub greatest : (y : List Bool) → length y ≡ n → f y ≤ most
  pub first : (y : List Bool) → length y ≡ n → number_of y < number_of x → f y < most
