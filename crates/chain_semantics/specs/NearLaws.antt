-- The laws about the near signals of a table, and about the moves but those to two signals: each the contract
-- of a function without parameters.
use Rattle.std.specs.Prelude.{◌≡◌, ◌↔◌, ◌⊎◌, ℕ, ◌<◌, ◌≤◌, Bool, true, List, length, filter, AllPairs}
use Rattle.std.specs.Prelude.{Contains}
use Rattle.semantics.specs.Net.{TableValue, NetValue, table_at, input_count, table_count, signal_count}
use Rattle.semantics.specs.Net.{IsAcyclic}
use Rattle.semantics.specs.Dependence.{DependsOn}
use Rattle.semantics.specs.declared.metric.Metric.{Metric}
use Rattle.chain_semantics.specs.declared.moves.Move.{Move}
use Rattle.chain_semantics.specs.declared.moves.TheConstants.{MOST_NEAR_SIGNALS}
use Rattle.chain_semantics.specs.TidyRules.{first_place_of}
use Rattle.chain_semantics.specs.Moves.{each_once, pins_of, pins_and_theirs, near_signals, moves_of}
use Rattle.chain_semantics.specs.Moves.{old_moves_of, is_old}
use Rattle.chain_semantics.specs.Minimality.{AreBrokenBySome, IsMinimalBy}

-- s first stands before u does
abbrev pub StandsBefore : List ℕ → ℕ → ℕ → Type 0
StandsBefore signals s u = first_place_of signals s < first_place_of signals u

-- `each_once` has the numbers of the list, each before those that first stand behind it, so no number stands
-- twice
pub record EachOnceLaw : Type 0 where
  pub members : (signals : List ℕ) (s : ℕ) → Contains (each_once signals) s ↔ Contains signals s
  pub in_order : (signals : List ℕ) → AllPairs (StandsBefore signals) (each_once signals)

-- s is a pin of the table, or a pin of a table that is a pin of the table
abbrev pub IsNear : NetValue → TableValue → ℕ → Type 0
IsNear N table s = Contains table.pins s ⊎ ((p : ℕ) × Contains table.pins p × Contains (pins_of N p) s)

-- Near signals are pins and pins of pins, in the order in which they first stand. There are at most
-- `MOST_NEAR_SIGNALS` of them; a signal that is left out stands behind them all; where there are fewer than
-- the most, none is left out. In acyclic tables no near signal of a table depends on that table.
pub record NearLaw : Type 0 where
  pub near : (N : NetValue) (table : TableValue) (s : ℕ) → Contains (near_signals N table) s
      → IsNear N table s
  pub in_order : (N : NetValue) (table : TableValue)
      → AllPairs (StandsBefore (pins_and_theirs N table)) (near_signals N table)
  pub few : (N : NetValue) (table : TableValue) → length (near_signals N table) ≤ MOST_NEAR_SIGNALS
  pub left_out : (N : NetValue) (table : TableValue) (s u : ℕ) → IsNear N table s
      → ¬ Contains (near_signals N table) s → Contains (near_signals N table) u
      → StandsBefore (pins_and_theirs N table) u s
  pub all : (N : NetValue) (table : TableValue) (s : ℕ) → length (near_signals N table) < MOST_NEAR_SIGNALS
      → IsNear N table s
      → Contains (near_signals N table) s
  pub signals : (N : NetValue) (t s : ℕ) → IsAcyclic (input_count N) N.tables → t < table_count N
      → Contains (near_signals N (table_at N.tables t)) s
      → s < signal_count N
  pub apart : (N : NetValue) (t s : ℕ) → IsAcyclic (input_count N) N.tables → t < table_count N
      → Contains (near_signals N (table_at N.tables t)) s
      → ¬ DependsOn (input_count N) N.tables t s

-- The moves but those to two signals are moves, in their order; where each move is broken by some of the
-- vectors, so is each of these.
pub record OldMoveLaw : Type 0 where
  pub is : (N : NetValue) → old_moves_of N ≡ filter is_old (moves_of N)
  pub members : (N : NetValue) (move : Move)
      → Contains (old_moves_of N) move ↔ (Contains (moves_of N) move × (is_old move ≡ true))
  pub minimal : (metric : Metric) (exact : NetValue) (bound : ℕ) (N : NetValue) (vectors : List (List Bool))
      → IsMinimalBy metric exact bound N vectors
      → AreBrokenBySome metric exact bound N vectors (old_moves_of N)
