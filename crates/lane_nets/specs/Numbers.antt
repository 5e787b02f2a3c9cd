-- Numbers in wide words: word i has bit i of a number for each pattern. Source: bit-sliced arithmetic.
use Rattle.std.specs.Prelude.{ℕ, zero, suc, ◌+◌, ◌^◌, Bool, true, false, ◌&&◌, ◌||◌, List, [], slice_index}
use Rattle.std.specs.Prelude.{slice_index_or}
use Rattle.semantics.specs.Error.{number_of}
use Rattle.lane_bits.specs.Rows.{turned}
use Rattle.lane_nets.specs.Words.{word_bit}
use Rattle.lane_nets.specs.Lanes.{lane_at}
use Rattle.lane_nets.specs.Wide.{lane_words}

-- bit i of the number at pattern b of lane j
abbrev pub wide_bit : List (List ℕ) → ℕ → ℕ → ℕ → Bool
wide_bit wides j b i = word_bit (slice_index (slice_index_or wides i []) j) b

-- the number at pattern b of lane j
abbrev pub wide_number : List (List ℕ) → ℕ → ℕ → ℕ
wide_number wides j b = number_of (lane_at (lane_words wides j) b)

-- what a bit at place i counts
abbrev pub place_value : Bool → ℕ → ℕ
place_value false i = 0
place_value true i = 2 ^ i

-- the number that the first n bits make
abbrev pub number_below : (ℕ → Bool) → ℕ → ℕ
number_below bits zero = 0
number_below bits (suc n) = number_below bits n + place_value (bits n) n

-- the sum of three bits, and what is carried
abbrev pub sum_of : Bool → Bool → Bool → Bool
sum_of first second carry = turned carry (turned second first)

abbrev pub carry_of : Bool → Bool → Bool → Bool
carry_of first second carry = (first && second) || (turned second first && carry)
