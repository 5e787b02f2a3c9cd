-- The values of all signals at many input vectors, which begin with the same bits. Source: bit-parallel
-- simulation.
use Rattle.std.specs.Prelude.{◌≡◌, Bool, ℕ, List, length, take, drop}
use Rattle.semantics.specs.Net.{NetValue, input_count}
use Rattle.semantics.specs.Error.{number_of}
use Rattle.lane_nets.specs.Words.{HasValues}

-- a vector that begins with the front has its values at the pattern whose number is that of the bits behind
-- the front
abbrev pub AreValuesBehind : NetValue → List Bool → List ℕ → Type 0
AreValuesBehind N front words =
    (x : List Bool) → length x ≡ input_count N → take (length front) x ≡ front
    → HasValues N words (number_of (drop (length front) x)) x
