-- What a call says of its result, at every assignment that fits the network. An assignment fits if it gives
-- each table its value; the values of the signals at an input vector do.
use Rattle.std.specs.Prelude.{◌≡◌, ℕ, ◌-◌, ◌^◌, pos, ◌+ℤ◌, Bool, List, count_by, length, map, take, drop}
use Rattle.semantics.specs.Value.{Assignment, value_of}
use Rattle.semantics.specs.Error.{signed_number_of}
use Rattle.quality_semantics.specs.WordNets.{WordNetValue}
use Rattle.quality_semantics.specs.Laws.{Fits, number}

-- the number of the bus
pub record HasNumber (W : WordNetValue) (bus : List ℕ) (of : Assignment → ℕ) : Type 0 where
  pub at : (v : Assignment) → Fits v W → number v bus ≡ of v

-- the number of bits of the bus that are 1
pub record HasCount (W : WordNetValue) (bus : List ℕ) (of : Assignment → ℕ) : Type 0 where
  pub at : (v : Assignment) → Fits v W → count_by v bus ≡ of v

-- the value of the signal
pub record HasBit (W : WordNetValue) (signal : ℕ) (of : Assignment → Bool) : Type 0 where
  pub at : (v : Assignment) → Fits v W → v signal ≡ of v

-- the bits of the bus are `width` bits of the input vector, from input `from` on
pub record HasInputs (W : WordNetValue) (bus : List ℕ) (from width : ℕ) : Type 0 where
  pub at : (x : List Bool) → length x ≡ W.inputs
      → map (value_of W.inputs W.tables x) bus ≡ take width (drop from x)

-- the number of the bus is the number of x in two's complement plus half of the range
pub record HasFlipped (W : WordNetValue) (bus x : List ℕ) : Type 0 where
  pub at : (v : Assignment) → Fits v W
      → pos (number v bus) ≡ signed_number_of (map v x) +ℤ pos (2 ^ (length x - 1))
