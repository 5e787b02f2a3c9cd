-- How far two words are apart. Source: the ripple-borrow subtractor.
use Rattle.std.specs.Prelude.{◌≡◌, ℕ, ◌+◌, ◌*◌, ◌^◌, List, length}
use Rattle.semantics.specs.Value.{Assignment}
use Rattle.semantics.specs.Error.{bit_number}
use Rattle.quality_semantics.specs.WordNets.{WordNetValue}
use Rattle.quality_semantics.specs.Laws.{Fits, number}

-- the signals of one place of a subtraction, a full subtractor: its three inputs and its two outputs
pub record FullSubtractor : Type 0 where
  pub minuend : ℕ
  pub subtrahend : ℕ
  pub borrow_in : ℕ
  pub difference : ℕ
  pub borrow_out : ℕ

-- the difference and the borrow of the minuend less the subtrahend, and less the borrow of the place before
pub record IsPlaceOf (W : WordNetValue) (p : FullSubtractor) : Type 0 where
  pub at : (v : Assignment) → Fits v W
      → bit_number (v p.minuend) + 2 * bit_number (v p.borrow_out)
      ≡ bit_number (v p.subtrahend) + bit_number (v p.borrow_in) + bit_number (v p.difference)

-- d is x less y, plus 2 to the width where something is borrowed
pub record IsDifferenceOf (W : WordNetValue) (x y d : List ℕ) (borrow : ℕ) : Type 0 where
  pub width : length d ≡ length x
  pub at : (v : Assignment) → Fits v W
      → number v x + 2 ^ length x * bit_number (v borrow) ≡ number v y + number v d
