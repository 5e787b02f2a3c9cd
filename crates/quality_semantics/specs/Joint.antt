-- The joint net: two nets over the same inputs, and a quality network over their outputs, so that one output
-- says whether the error exceeds a level. Source: SALSA's quality function circuit, which the outputs of the
-- exact and of the approximate circuit feed.
use Rattle.std.specs.Prelude.{◌≡◌, ℕ, ◌+◌, ◌-◌, nat_lt, if◌then◌else◌, List, [], ◌∷◌, ◌++◌, map, length}
use Rattle.std.specs.Prelude.{slice_index_or, decimal, codes}
use Rattle.std.specs.List.{range_with_len}
use Rattle.semantics.specs.Texts.{Bytes}
use Rattle.semantics.specs.Net.{TableValue, NetValue, input_count, table_count, IsSound}
use Rattle.semantics.specs.declared.metric.Metric.{Metric}
use Rattle.quality_semantics.specs.Quality.{quality}

-- a letter and a number
abbrev pub numbered_name : ℕ → ℕ → Bytes
numbered_name letter i = letter ∷ decimal i

-- the tables with their pins renamed by f, named by the letter and their numbers from i on
abbrev pub copied_from : ℕ → ℕ → (ℕ → ℕ) → List TableValue → List TableValue
copied_from i letter f [] = []
copied_from i letter f (t ∷ tables)
    = record t { name = numbered_name letter i; pins = map f t.pins } ∷ copied_from (i + 1) letter f tables

abbrev pub copied : ℕ → (ℕ → ℕ) → List TableValue → List TableValue
copied letter f tables = copied_from 0 letter f tables

-- where the signals of a net over n inputs stand in a larger one: its inputs by `input`, and its tables from
-- signal `first` on
abbrev pub moved : (ℕ → ℕ) → ℕ → ℕ → ℕ → ℕ
moved input n first s = if nat_lt s n then input s else first + (s - n)

-- the exact net's signals stay, and the signals of the approximate net's tables stand behind them
abbrev pub approximate_signal : NetValue → ℕ → ℕ
approximate_signal exact s = moved (λ i. i) (input_count exact) (input_count exact + table_count exact) s

-- the inputs of the quality network: the exact net's outputs, and then those of the approximate one
abbrev pub both_outputs : NetValue → NetValue → List ℕ
both_outputs exact approx = exact.outputs ++ map (approximate_signal exact) approx.outputs

-- the signals of the quality network's tables come behind all others
abbrev pub quality_signal : NetValue → NetValue → ℕ → ℕ
quality_signal exact approx s =
    moved (λ i. slice_index_or (both_outputs exact approx) i 0) (length exact.outputs + length exact.outputs)
    (input_count exact + table_count exact + table_count approx) s

-- Inputs `x0`, `x1` and so on; then the exact net's tables `e0`, `e1` and so on, the approximate net's tables
-- `a0` and so on, and the quality network's tables `q0` and so on, whose output is the one output.
unfoldable pub joint_net : NetValue → NetValue → Metric → ℕ → NetValue
joint_net exact approx metric k =
    let q = quality metric (length exact.outputs) k in
    record {
      model = codes "joint";
      inputs = map (numbered_name 120) (range_with_len 0 (input_count exact));
      tables =
          copied 101 (λ s. s) exact.tables
          ++ (copied 97 (approximate_signal exact) approx.tables
          ++ copied 113 (quality_signal exact approx) q.net.tables);
      outputs = quality_signal exact approx q.signal ∷ [];
    }

-- sound nets with equally many inputs and equally many outputs
pub record AreComparable (exact approx : NetValue) : Type 0 where
  pub exact_sound : IsSound exact
  pub approximate_sound : IsSound approx
  pub inputs : input_count exact ≡ input_count approx
  pub outputs : length exact.outputs ≡ length approx.outputs
