-- Words of 64 patterns: one word for each signal, whose bit b is the signal's value at pattern b. Source:
-- bit-parallel simulation.
use Rattle.std.specs.Prelude.{◌≡◌, ◌==◌, ℕ, ◌<◌, Bool, false, List, slice_index, slice_index_or}
use Rattle.std.specs.Int.{bit_at}
use Rattle.semantics.specs.Net.{NetValue, input_count, signal_count}
use Rattle.semantics.specs.Value.{Assignment, value_of}

abbrev pub word_bit : ℕ → ℕ → Bool
word_bit word b = bit_at word b == 1

-- the values of the signals at pattern b
abbrev pub values_at : List ℕ → ℕ → Assignment
values_at words b s = word_bit (slice_index words s) b

-- at pattern b the inputs have the bits of x
abbrev pub HasInputs : NetValue → List ℕ → ℕ → List Bool → Type 0
HasInputs N words b x = (s : ℕ) → s < input_count N → values_at words b s ≡ slice_index_or x s false

-- at pattern b each signal has its value at x
abbrev pub HasValues : NetValue → List ℕ → ℕ → List Bool → Type 0
HasValues N words b x = (s : ℕ) → s < signal_count N
    → values_at words b s ≡ value_of (input_count N) N.tables x s
