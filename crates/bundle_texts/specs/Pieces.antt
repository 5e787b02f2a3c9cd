-- What stands at the front of a text that is read piece by piece.
use Rattle.std.specs.Prelude.{◌≡◌, ◌≢◌, ℕ, ◌≤◌, ◌==◌, ◌||◌, Bool, List, ◌∷◌, ◌++◌, map, length, All, decimal}
use Rattle.semantics.specs.Texts.{Bytes, bits_word}

-- the byte does not stand in the word
abbrev pub Lacks : ℕ → Bytes → Type 0
Lacks byte word = All (λ b. b ≢ byte) word

-- `0` or `1`
abbrev pub is_bit_digit : ℕ → Bool
is_bit_digit d = (d == 48) || (d == 49)

-- the bits that digits say
abbrev pub bits_in : Bytes → List Bool
bits_in digits = map (λ d. d == 49) digits

-- a number up to `most`, then the byte `end`, and then the rest
pub record IsNumberBefore (most end : ℕ) (text : Bytes) (n : ℕ) (rest : Bytes) : Type 0 where
  pub few : n ≤ most
  pub spelled : text ≡ decimal n ++ end ∷ rest

-- a vector of `width` bits on a line, and then the rest
pub record IsVectorBefore (width : ℕ) (text : Bytes) (x : List Bool) (rest : Bytes) : Type 0 where
  pub width_is : length x ≡ width
  pub spelled : text ≡ bits_word x ++ 10 ∷ rest
