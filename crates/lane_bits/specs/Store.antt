-- How rows of bits hold a set of vectors, and how they change when a vector is added.
use Rattle.std.specs.Prelude.{◌≡◌, ◌⊎◌, ℕ, ◌<◌, ◌≤◌, ◌==◌, ◌||◌, ◌&&◌, Bool, false, List, [], length}
use Rattle.std.specs.Prelude.{slice_index_or, All}
use Rattle.semantics.specs.declared.limits.TheConstants.{MOST_INPUTS}
use Rattle.lane_bits.specs.Rows.{row_bit, word_count}

-- a row has room for `count` bits, and the bits past them are 0
pub record IsRowFor (count : ℕ) (row : List ℕ) : Type 0 where
  pub room : word_count count ≤ length row
  pub clear : (p : ℕ) → count ≤ p → row_bit row p ≡ false

-- one row for each input, or none before the first vector
pub record AreRowsOf (inputs count : ℕ) (rows : List (List ℕ)) : Type 0 where
  pub few : inputs ≤ MOST_INPUTS
  pub each : (length rows ≡ inputs) ⊎ ((count ≡ 0) × (rows ≡ []))
  pub formed : All (IsRowFor count) rows

-- the row may have words behind those that it had, and the bits in those words are 0
pub record IsGrownFrom (old new : List ℕ) : Type 0 where
  pub longer : length old ≤ length new
  pub bits : (p : ℕ) → row_bit new p ≡ row_bit old p

-- a row that is not there has no words
abbrev pub row_at : List (List ℕ) → ℕ → List ℕ
row_at rows i = slice_index_or rows i []

pub record AreGrownFrom (old new : List (List ℕ)) : Type 0 where
  pub same : length new ≡ length old
  pub each : (i : ℕ) → i < length old → IsGrownFrom (row_at old i) (row_at new i)

-- there is a row for each input, or none still
pub record AreReadied (inputs : ℕ) (old new : List (List ℕ)) : Type 0 where
  pub count : (length new ≡ inputs) ⊎ ((old ≡ []) × (new ≡ []))
  pub each : (i : ℕ) → IsGrownFrom (row_at old i) (row_at new i)

-- bit p of each row is set where its input's bit is
pub record AreSetAt (p : ℕ) (x : List Bool) (old new : List (List ℕ)) : Type 0 where
  pub same : length new ≡ length old
  pub lengths : (i : ℕ) → i < length old → length (row_at new i) ≡ length (row_at old i)
  pub bits : (i : ℕ) → i < length old → (q : ℕ)
      → row_bit (row_at new i) q ≡ (((q == p) && slice_index_or x i false) || row_bit (row_at old i) q)
