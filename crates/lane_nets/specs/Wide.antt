-- Wide words: eight words side by side. Source: bit-parallel simulation on vectors of words.
use Rattle.std.specs.Prelude.{◌≡◌, ℕ, ◌+◌, ◌*◌, ◌<◌, Bool, List, [], length, map, slice_index, slice_index_or}
use Rattle.semantics.specs.Net.{NetValue}
use Rattle.semantics.specs.Error.{rounded_up}
use Rattle.lane_bits.specs.Patterns.{PatternSet}
use Rattle.lane_nets.specs.Blocks.{IsBlock}
use Rattle.lane_nets.specs.Lanes.{IsOutputBlock}

-- the words of one lane
abbrev pub lane_words : List (List ℕ) → ℕ → List ℕ
lane_words wides j = map (λ wide. slice_index wide j) wides

-- wide block q: lane j is block 8 q + j
abbrev pub IsWideBlock : NetValue → List (List Bool) → ℕ → List (List ℕ) → Type 0
IsWideBlock N vectors q wides = (j : ℕ) → j < 8 → IsBlock N vectors (8 * q + j) (lane_words wides j)

-- the net's outputs in wide block q: lane j has those of block 8 q + j
abbrev pub AreWideOutputs : NetValue → List (List Bool) → ℕ → List (List ℕ) → Type 0
AreWideOutputs N vectors q outputs = (j : ℕ) → j < 8
    → IsOutputBlock N vectors (8 * q + j) (lane_words outputs j)

-- the number of wide blocks that `count` patterns take
abbrev pub wide_count : ℕ → ℕ
wide_count count = rounded_up count 512

abbrev pub wides_at : List (List (List ℕ)) → ℕ → List (List ℕ)
wides_at rows q = slice_index_or rows q []

-- the net's outputs at each pattern, in wide blocks
pub record AreWideOutputsOf (N : NetValue) (vectors : List (List Bool))
    (rows : List (List (List ℕ))) : Type 0 where
  pub count : length rows ≡ wide_count (length vectors)
  pub are : (q : ℕ) → q < length rows → AreWideOutputs N vectors q (wides_at rows q)

-- a net, a set of patterns, and the wide words of the net's outputs in one wide block
pub record WideOutputsValue : Type 0 where
  pub net : NetValue
  pub patterns : PatternSet
  pub outputs : List (List ℕ)
