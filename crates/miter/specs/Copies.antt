-- The parts of a joint net as this crate makes them.
use Rattle.std.specs.Prelude.{◌≡◌, ℕ, ◌+◌, ◌<◌, ◌^◌, nat_lt, Bool, List, [], ◌∷◌, ◌++◌, map, length}
use Rattle.std.specs.Prelude.{slice_index_or, codes}
use Rattle.std.specs.List.{range_with_len}
use Rattle.semantics.specs.Net.{TableValue, NetValue, input_count, table_count, signal_count, IsAcyclic}
use Rattle.semantics.specs.Value.{outputs_of}
use Rattle.semantics.specs.declared.metric.Metric.{Metric}
use Rattle.semantics.specs.Error.{net_error}
use Rattle.net_core.specs.Built.{IsWired}
use Rattle.quality_semantics.specs.Joint.{numbered_name, copied, moved, approximate_signal, quality_signal}

-- where the signals of a net stand: its inputs at the signals of a list, and its tables one behind another
-- from signal `first` on
abbrev pub placed : List ℕ → ℕ → ℕ → ℕ
placed inputs first s = moved (λ i. slice_index_or inputs i 0) (length inputs) first s

-- the copy of a table, with its pins renamed by f, named by the letter and its number
abbrev pub copy_at : ℕ → ℕ → (ℕ → ℕ) → TableValue → TableValue
copy_at i letter f t = record t { name = numbered_name letter i; pins = map f t.pins }

-- the tables of the joint net, where those of the quality network are these
abbrev pub all_copies : NetValue → NetValue → List TableValue → List TableValue
all_copies exact approx tables =
    copied 101 (λ s. s) exact.tables
    ++ (copied 97 (approximate_signal exact) approx.tables
    ++ copied 113 (quality_signal exact approx) tables)

-- the net of two nets and a quality network over their outputs
unfoldable pub joined : NetValue → NetValue → NetValue → NetValue
joined exact approx quality = record {
  model = codes "joint";
  inputs = map (numbered_name 120) (range_with_len 0 (input_count exact));
  tables = all_copies exact approx quality.tables;
  outputs = map (quality_signal exact approx) quality.outputs;
}

-- what is required of two nets and a quality network that are joined
pub record IsJoinable (exact approx quality : NetValue) : Type 0 where
  pub outputs : length exact.outputs ≡ length approx.outputs
  pub room : signal_count exact + table_count approx < 2 ^ 31
  pub wired : IsWired (joined exact approx quality)
  pub acyclic : IsAcyclic (input_count (joined exact approx quality)) (joined exact approx quality).tables

-- the one output is 1 exactly where the error exceeds the level
abbrev pub TellsError : Metric → NetValue → NetValue → ℕ → NetValue → Type 0
TellsError metric exact approx k N = (x : List Bool)
    → outputs_of N x ≡ nat_lt k (net_error metric exact approx x) ∷ []
